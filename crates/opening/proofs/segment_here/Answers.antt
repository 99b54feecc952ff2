-- `opening::segment_here` meets its contract: of what `judge` gives. Assumes nothing.
use mathlib.Core.Path.{sym, ap, ◌∙◌}
use Rattle.segment.specs.Malformed.{judged}
use Rattle.opening.proofs.Planning.{here_stands, here_as}
use Rattle.opening.proofs.segment_here.Goals as goal

pub summary_at-summary-requires : goal.summary_at-summary-requires
summary_at-summary-requires c = here_stands _ _ c.requires

pub returns : goal.returns
returns c = c.unwrap_or.ensures ∙ here_as _ _ _ _ (ap (judged c.args.family c.args.kernel.now) (sym c.summary_at-summary.ensures) ∙ sym c.judge.ensures.value)
