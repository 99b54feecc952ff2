-- `segment::type13` meets its contract. Assumes nothing.
use Rattle.segment.proofs.AfterTests.{thirteen_refused, thirteen_answered}
use Rattle.std.proofs.Common.{Ok}
use borrow.Author.Tests.{eq-eqb, ne_eqb}
use mathlib.Core.Path.{sym, ap, ◌∙◌}
use Rattle.segment.proofs.evaluating.type13.Goals as goal

pub returns-then-window_size-eq0 : goal.returns-then-window_size-eq0
returns-then-window_size-eq0 c = thirteen_refused _ _ _ _ _ _ (eq-eqb _ _ (sym c.window_size.ensures ∙ c.if-window_size-eq0.true))

pub returns : goal.returns
returns c =
    ap Ok c.of.ensures
    ∙ thirteen_answered _ _ _ _ _ _ (ne_eqb _ _ (λ q. c.if-window_size-eq0.false (c.window_size.ensures ∙ q))) _ _ _ c.reach_at-reach.ensures c.is_stretched.ensures c.type13_at-state.ensures
