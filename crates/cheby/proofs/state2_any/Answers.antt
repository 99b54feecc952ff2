-- `cheby::state2_any` meets its contract: the series at their bytes are those of the record.
use Rattle.cheby.proofs.Record.{type2_some}
use Rattle.cheby.proofs.state2_any.Goals as goal

pub returns : goal.returns
returns c =
    let call = c.val_and_deriv-r.ensures in
    type2_some _ _ _ _ c.double_at-mid.ensures c.double_at-radius.ensures c.requires.1 call.0 call.1 c.times.ensures c.joined.ensures
