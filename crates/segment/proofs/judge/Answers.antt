-- `segment::judge` meets its contract, an answer for each finding. Assumes nothing.
use Rattle.std.proofs.Common.{Some}
use Rattle.segment.proofs.Judging.{judged_malformed, judged_accepted}
use Rattle.segment.specs.declared.Kind.TheVariants.{Unsupported}
use Rattle.segment.specs.Malformed.{found}
use Rattle.segment.specs.Told.{judged_told}
use mathlib.Core.Path.{sym, ap, ◌∙◌}
use Rattle.segment.proofs.judge.Goals as goal

pub returns-in_err-kind-clause-value : goal.returns-in_err-kind-clause-value
returns-in_err-kind-clause-value c = c.from_residual.ensures ∙ judged_malformed _ _ _ _ Unsupported (ap (found _ _) (sym c.segment_with.ensures) ∙ sym c.in_err-kind.ensures)

pub returns-in_err-kind-clause-told : goal.returns-in_err-kind-clause-told
returns-in_err-kind-clause-told c =
    λ i. ap (judged_told i) (c.from_residual.ensures ∙ judged_malformed _ _ _ _ Unsupported (ap (found _ _) (sym c.segment_with.ensures) ∙ sym c.in_err-kind.ensures))

pub returns-clause-value : goal.returns-clause-value
returns-clause-value c =
    ap Some c.segment_with-2.ensures
    ∙ judged_accepted _ _ _ _ _ (ap (found _ _) (sym c.segment_with.ensures) ∙ sym c.in_ok-kind.ensures)

pub returns-clause-told : goal.returns-clause-told
returns-clause-told c =
    λ i. ap (judged_told i) (ap Some c.segment_with-2.ensures
    ∙ judged_accepted _ _ _ _ _ (ap (found _ _) (sym c.segment_with.ensures) ∙ sym c.in_ok-kind.ensures))
