-- `orient_text::question_at` meets its contract. Assumes nothing.
use mathlib.Core.Path.{◌≡◌, ◌∙◌}
use lib.IntN.{ℤ}
use lib.Ieee.{Float}
use mir.Syntax.{w32}
use mir.ValLaws.{to_z-of_z}
use Rattle.pck.specs.declared.Question.{Question}
use Rattle.orient_text.specs.Records.{question_at}
use borrow.Author.Rules.{rules}
use Rattle.orient_text.proofs.question_at.Goals as goal

-- a question by its parts
equal : {b b' : ℤ} {e e' : Float} → b ≡ b' → e ≡ e' → ◌≡◌ {A = Question} (record { body = b; et = e }) (record { body = b'; et = e' })
equal p q = cc

pub returns : goal.returns
unfolding question_at
returns c =
    let b = c.le_i32 in
    equal (to_z-of_z w32 b.result (search rules) ∙ b.ensures) c.double_at.ensures
