-- `spk::evaluated_at` meets its contract: an answer for each arm. Assumes nothing.
use mathlib.Core.Path.{◌∙◌, sym, ap}
use Rattle.chain.specs.Step.{yield_of}
use Rattle.spk.proofs.Settling.{settled_refused}
use Rattle.spk.proofs.evaluated_at.Goals as goal

pub returns-in-Err : goal.returns-in-Err
returns-in-Err c =
    c.refused.ensures
    ∙ sym (settled_refused _ _ _ (ap (yield_of c.args.s) (sym c.evaluate-e.ensures.value ∙ c.in-Err.is)))
