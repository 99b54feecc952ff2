-- `cheby::ClearSeries::two_terms` meets its contract. Assumes nothing.
use Rattle.cheby.proofs.Laws.{values_two}
use Rattle.cheby.proofs.ClearSeries.two_terms.Goals as goal

pub returns : goal.returns
returns c = values_two _ _ _ _ c.row.ensures c.row-2.ensures c.times.ensures c.plus.ensures
