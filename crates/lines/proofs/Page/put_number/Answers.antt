-- `lines::Page::put_number` meets its contract: a space and the 16 digits of the bits. Assumes nothing.
use mathlib.Core.Path.{ap, ◌∙◌, subst}
use mathlib.Core.List.{List, [], ◌∷◌, ◌++◌}
use Prim.Native.Nat.{ℕ}
use native.Mathlib.Omega.{arith}
use Rattle.io.specs.Digits.{last_digits}
use Rattle.lines.specs.Text.{space, number_text}
use Rattle.lines.specs.Written.{Put}
use Rattle.lines.proofs.Texts.{then, hex_places}
use Rattle.lines.proofs.Page.put_number.Goals as goal

-- the digits that `io::hex` put are 16, of the bits
pub returns-clause-written : goal.returns-clause-written
unfolding number_text
returns-clause-written c =
    subst (λ (l : List ℕ). Put c.args.self.now ((space ∷ []) ++ l) c.put-2.new.self)
    (c.hex-k.ensures.digits
    ∙ ap (λ (j : ℕ). last_digits 16 j c.bits_of.result) (hex_places c.bits_of.result c.hex-k.result (omega arith) c.hex-k.ensures.len)
    ∙ ap (last_digits 16 16) c.bits_of.ensures)
    (then c.put.ensures c.put-2.ensures)
