-- `ask_text::question_at` meets its contract. Assumes nothing.
use mathlib.Core.Path.{◌≡◌, ◌∙◌}
use lib.IntN.{ℤ}
use lib.Ieee.{Float}
use mir.Syntax.{w32}
use mir.ValLaws.{to_z-of_z}
use Rattle.spk.specs.declared.Question.{Question}
use Rattle.ask_text.specs.Records.{question_at}
use borrow.Author.Rules.{rules}
use Rattle.ask_text.proofs.question_at.Goals as goal

-- a question by its parts
equal : {t t' z z' : ℤ} {e e' : Float} → t ≡ t' → z ≡ z' → e ≡ e' → ◌≡◌ {A = Question} (record { target = t; center = z; et = e }) (record { target = t'; center = z'; et = e' })
equal p q r = cc

pub returns : goal.returns
unfolding question_at
returns c =
    let t = c.le_i32 in
    let n = c.le_i32-2 in
    equal (to_z-of_z w32 t.result (search rules) ∙ t.ensures) (to_z-of_z w32 n.result (search rules) ∙ n.ensures) c.double_at.ensures
