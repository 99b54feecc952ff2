-- `segment::unfit` meets its contract, an answer for each finding. Assumes nothing.
use Rattle.segment.proofs.Fit.{unfit_fails, unfit_makes}
use mathlib.Core.Bool.{not}
use mathlib.Core.Path.{sym, ap, ◌∙◌}
use Rattle.segment.proofs.evaluating.unfit.Goals as goal

pub returns-in-None : goal.returns-in-None
returns-in-None c = unfit_fails _ _ _ (sym c.in-None.ensures)

pub returns-in-Some : goal.returns-in-Some
returns-in-Some c = ap not c.same_kind.ensures ∙ unfit_makes _ _ _ _ (sym c.in-Some.ensures)
