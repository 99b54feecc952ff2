-- `spk::Answer::same` meets its contract. Assumes nothing.
use mathlib.Core.Bool.{false}
use mathlib.Core.Path.{◌∙◌, ap}
use Rattle.spk.specs.declared.Way.TheVariants.{Same}
use Rattle.frame.specs.declared.State.{State}
use Rattle.frame.specs.Framed.{j2000}
use Rattle.frame.specs.Given.{given_of}
use Rattle.spk.specs.Answers.{answer_of, same_answer}
use Rattle.spk.proofs.Answer.same.Goals as goal

pub returns : goal.returns
unfolding same_answer
returns c = c.new.ensures ∙ ap (answer_of Same) (c.of.ensures ∙ ap (λ (s : State). given_of s j2000 false) c.zero.ensures)
