-- `spk::start_of` meets its contract: an answer for each way. Assumes nothing.
use mathlib.Core.Path.{sym, ◌∙◌}
use mathlib.Core.Bool.{true, false}
use Rattle.chain.proofs.Walks.{begin_at}
use Rattle.spk.proofs.start_of.Goals as goal

pub returns-then-is_zero : goal.returns-then-is_zero
returns-then-is_zero c = begin_at _ _ true c.leg-leg.ensures (sym c.is_zero.ensures ∙ c.if-is_zero.true)

pub returns : goal.returns
returns c = begin_at _ _ false c.leg-leg.ensures (sym c.is_zero.ensures ∙ c.if-is_zero.false)
