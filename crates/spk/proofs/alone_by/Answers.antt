-- `spk::alone_by` meets its contract: an answer for each way. Assumes nothing.
use mathlib.Core.Path.{◌∙◌, sym}
use native.Mathlib.Omega.{arith}
use Rattle.table.proofs.Early.{ready_fits}
use Rattle.table.proofs.Limits.{limit_told}
use Rattle.spk.proofs.Single.{unready, ready_none, ready_some}
use Rattle.spk.proofs.alone_by.Goals as goal

pub returns-in-Err : goal.returns-in-Err
returns-in-Err c = c.refused.ensures ∙ unready _ _ _ _ _ _ _ (sym c.in-Err.ensures)

pub returns-then-n-number : goal.returns-then-n-number
returns-then-n-number c = c.refused-then-n-number.ensures ∙ ready_none _ _ _ _ _ _ c.in_default.field-0 (sym c.in_default.ensures) c.if-n-number.true

pub evaluated_at-requires : goal.evaluated_at-requires
evaluated_at-requires c =
    let fits = limit_told c.args.places c.args.n (ready_fits _ _ c.args.et c.in_default.field-0 (sym c.in_default.ensures)) in
    omega (arith, fits.1)

pub returns : goal.returns
returns c = c.evaluated_at.ensures ∙ ready_some _ _ _ _ _ _ c.in_default.field-0 (sym c.in_default.ensures) c.if-n-number.false
