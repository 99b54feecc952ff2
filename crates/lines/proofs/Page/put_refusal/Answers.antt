-- `lines::Page::put_refusal` meets its contract: the word, the number and the detail, one after the other. Assumes nothing.
use mathlib.Core.Path.{ap, ◌∙◌, subst}
use mathlib.Core.List.{List, [], ◌∷◌, ◌++◌}
use Prim.Native.Nat.{ℕ}
use lib.IntN.{ℤ}
use mir.Syntax.{w64}
use mir.Val.{to_z, of_z}
use mir.ValLaws.{to_z-of_z}
use borrow.Author.Rules.{rules}
use Rattle.refusal.specs.Numbers.{number_of}
use Rattle.lines.specs.Text.{space, newline, refused_word, decimal_text, signed_text, refusal_text}
use Rattle.lines.specs.Written.{Put}
use Rattle.lines.proofs.Texts.{then}
use Rattle.lines.proofs.Page.put_refusal.Goals as goal

-- the line of a number and a detail
abbrev line : ℕ → ℤ → List ℕ
line k z = refused_word ++ (decimal_text k ++ ((space ∷ []) ++ (signed_text z ++ (newline ∷ []))))

pub returns-clause-written : goal.returns-clause-written
unfolding refusal_text
returns-clause-written c =
    let z = c.detail.result in
    let put : Put c.args.self.now (line c.number.result (to_z w64 (of_z w64 z))) c.put-3.new.self =
    then c.put.ensures (then c.put_decimal.ensures.written (then c.put-2.ensures (then c.put_signed.ensures.written c.put-3.ensures))) in
    subst (λ (l : List ℕ). Put c.args.self.now l c.put-3.new.self)
    (ap (λ (k : ℕ). line k (to_z w64 (of_z w64 z))) c.number.ensures ∙ ap (line (number_of c.args.r)) (to_z-of_z w64 z (search rules) ∙ c.detail.ensures)) put
