-- `admission::plan_short` meets its contract. Assumes nothing.
use mathlib.Core.Path.{sym, ◌∙◌}
use Rattle.table.specs.Places.{limit_of}
use Rattle.admission.proofs.Ways.{too_long_lem, short_enough}
use borrow.Author.Rules.{rules}
use Rattle.admission.proofs.plan_short.Goals as goal

pub returns-then-over : goal.returns-then-over
returns-then-over c =
    let a = c.args in
    too_long_lem a.family (limit_of a.places) a.size a.mark a.kernel.now a.file.now (sym c.over.ensures ∙ c.if-over.true)

pub returns : goal.returns
returns c =
    let a = c.args in
    c.«plan».ensures
    ∙ short_enough a.family (limit_of a.places) a.size a.mark a.kernel.now a.file.now (sym c.over.ensures ∙ c.if-over.false)
