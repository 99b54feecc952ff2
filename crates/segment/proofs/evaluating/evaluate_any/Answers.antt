-- `segment::evaluate_any` meets its contract: 12, 14, and else the segment, which fits. Assumes nothing.
use Rattle.segment.proofs.Fit.{fitting, evaluated_unsupported, evaluated_unfit, evaluated_valued}
use mir.ValLaws.{to_z-of_z}
use mir.Syntax.{w32}
use mathlib.Core.Path.{sym, ◌∙◌}
use borrow.Author.Rules.{rules}
use Rattle.segment.proofs.evaluating.evaluate_any.Goals as goal

pub returns-then-unsupported : goal.returns-then-unsupported
returns-then-unsupported c =
    let a = c.args in
    rw (to_z-of_z w32 a.s.data_type (search rules)) (evaluated_unsupported _ _ _ _ _ (sym c.unsupported.ensures ∙ c.if-unsupported.true))

pub returns-then-unfit : goal.returns-then-unfit
returns-then-unfit c =
    evaluated_unfit _ _ _ _ _ (sym c.unsupported.ensures ∙ c.if-unsupported.false) (sym c.unfit.ensures ∙ c.if-unfit.true)

pub start_of-requires : goal.start_of-requires
start_of-requires c = (fitting _ _ _ (sym c.unsupported.ensures ∙ c.if-unsupported.false) (sym c.unfit.ensures ∙ c.if-unfit.false)).0.start_count

pub value-requires : goal.value-requires
value-requires c = rw c.start_of.ensures.0 (fitting _ _ _ (sym c.unsupported.ensures ∙ c.if-unsupported.false) (sym c.unfit.ensures ∙ c.if-unfit.false)).1

pub returns : goal.returns
returns c =
    c.value.ensures
    ∙ evaluated_valued _ _ _ _ _ _ c.start_of.ensures.0 (sym c.unsupported.ensures ∙ c.if-unsupported.false)
    (sym c.unfit.ensures ∙ c.if-unfit.false)
