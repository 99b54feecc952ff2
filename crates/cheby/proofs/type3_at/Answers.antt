-- `cheby::type3_at` meets its contract: the series at their bytes are those of the record.
use Rattle.cheby.proofs.Record.{type3_both}
use Rattle.cheby.proofs.type3_at.Goals as goal

pub returns : goal.returns
returns c =
    type3_both _ _ _ _ c.double_at-mid.ensures c.double_at-radius.ensures c.val_and_deriv-pos.ensures.0 c.val_and_deriv-vel.ensures.0 c.joined.ensures
