-- `spk::Answer::refused` meets its contract. Assumes nothing.
use mathlib.Core.Path.{◌∙◌, ap}
use Rattle.spk.specs.declared.Way.TheVariants.{Refused}
use Rattle.spk.specs.Answers.{answer_of, refused_answer}
use Rattle.spk.proofs.Answer.refused.Goals as goal

pub returns : goal.returns
unfolding refused_answer
returns c = c.new.ensures ∙ ap (answer_of (Refused c.args.r)) c.nothing.ensures
