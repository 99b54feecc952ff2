-- `admission::plan` meets its contract: each way out is a law of the order. Assumes nothing.
use mathlib.Core.Path.{sym, ◌∙◌}
use Rattle.table.specs.Places.{limit_of}
use Rattle.admission.proofs.Ways.{refused_too, bad_record, planned_too}
use Rattle.std.proofs.lemmas.Result.{err_from_is_err_and}
use borrow.Author.Rules.{rules}
use Rattle.admission.proofs.plan.Goals as goal

pub returns-in_err-filling : goal.returns-in_err-filling
returns-in_err-filling c =
    let a = c.args in
    let p = err_from_is_err_and c.from_residual.result c.from_residual.ensures.1 in
    rw (p.1, p.2) (refused_too a.family (limit_of a.places) a.size a.mark a.kernel.now a.file.now _ c.plan_of.ensures _ c.in_err-filling.was)

pub returns-then-fit : goal.returns-then-fit
returns-then-fit c =
    let a = c.args in
    planned_too a.family (limit_of a.places) a.size a.mark a.kernel.now a.file.now _ c.plan_of.ensures _ c.in_ok-filling.was (sym c.fit.ensures ∙ c.if-fit.true)

pub returns-else-fit : goal.returns-else-fit
returns-else-fit c =
    let a = c.args in
    bad_record a.family (limit_of a.places) a.size a.mark a.kernel.now a.file.now _ c.plan_of.ensures _ c.in_ok-filling.was (sym c.fit.ensures ∙ c.if-fit.false)
