-- `opening::plan_from` meets its contract: where the loop stands is `Judging`. Assumes nothing.
use mathlib.Core.Path.{sym, ap, ◌∙◌}
use Rattle.segment.specs.Malformed.{judged}
use Rattle.opening.proofs.Planning.{judging_starts, starts_sound, here, here_stands, judged_bad, judged_on, judged_all}
use Rattle.opening.proofs.plan_from.Goals as goal

pub start-start-requires : goal.start-start-requires
start-start-requires c = starts_sound c.args.family c.args.kernel.now c.args.limit c.args.d c.requires.1

pub loop-i-init : goal.loop-i-init
loop-i-init c = judging_starts _ _ c.args.limit c.args.d _ c.requires c.start-start.ensures

pub summary_at-summary-requires : goal.summary_at-summary-requires
summary_at-summary-requires c = here_stands _ _ (c.loop-i.invariant.stands, here c.args.family c.args.kernel.now _ _ _ c.loop-i.invariant c.loop-i-test.true)

pub returns-in_default : goal.returns-in_default
returns-in_default c = judged_bad c.args.family c.args.kernel.now _ _ _ c.loop-i.invariant c.loop-i-test.true (ap (judged c.args.family c.args.kernel.now) (sym c.summary_at-summary.ensures) ∙ sym c.judge-judged.ensures.value ∙ c.in_default.is)

pub next-c-requires : goal.next-c-requires
next-c-requires c = (c.loop-i.invariant.stands, here c.args.family c.args.kernel.now _ _ _ c.loop-i.invariant c.loop-i-test.true)

pub loop-i-preserved : goal.loop-i-preserved
loop-i-preserved c = judged_on c.args.family c.args.kernel.now _ _ _ c.loop-i.invariant c.loop-i-test.true _ _ (ap (judged c.args.family c.args.kernel.now) (sym c.summary_at-summary.ensures) ∙ sym c.judge-judged.ensures.value ∙ c.in-Some.is) c.next-c.ensures

pub returns : goal.returns
returns c = judged_all _ _ _ _ _ c.args.limit c.args.d _ c.loop-i.invariant c.loop-i-test.false c.requires.1 c.start-start.ensures
