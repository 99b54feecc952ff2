-- `spk::Answer::settled` meets its contract: an answer for each arm. Assumes nothing.
use mathlib.Core.Path.{◌∙◌, sym}
use Rattle.spk.proofs.Settling.{settled_refused}
use Rattle.spk.proofs.Answer.settled.Goals as goal

pub returns-in-Err : goal.returns-in-Err
returns-in-Err c = c.refused.ensures ∙ sym (settled_refused _ _ _ c.in-Err.is)
