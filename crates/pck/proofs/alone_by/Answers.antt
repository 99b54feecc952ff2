-- `pck::alone_by` meets its contract: an answer for each way. Assumes nothing.
use mathlib.Core.Path.{◌∙◌, ap, sym}
use native.Mathlib.Omega.{arith}
use Rattle.table.proofs.Early.{ready_fits}
use Rattle.table.proofs.Limits.{limit_told}
use Rattle.pck.specs.Orienting.{settled}
use Rattle.pck.proofs.Alone.{unready, ready_none, ready_some}
use Rattle.pck.proofs.alone_by.Goals as goal

pub returns-in-Err : goal.returns-in-Err
returns-in-Err c = c.refused.ensures ∙ unready _ _ _ _ _ _ _ (sym c.in-Err.ensures)

pub returns-then-n-number : goal.returns-then-n-number
returns-then-n-number c = c.refused-then-n-number.ensures ∙ ready_none _ _ _ _ _ _ c.in_default.field-0 (sym c.in_default.ensures) c.if-n-number.true

pub overflow_cast-number : goal.overflow_cast-number
overflow_cast-number c =
    let fits = limit_told c.args.places c.args.n (ready_fits _ _ c.args.et c.in_default.field-0 (sym c.in_default.ensures)) in
    omega (arith, fits.1)

pub returns : goal.returns
returns c =
    c.settled.ensures ∙ ap (settled _) c.evaluate-e.ensures.value
    ∙ ready_some _ _ _ _ _ _ c.in_default.field-0 (sym c.in_default.ensures) c.if-n-number.false
