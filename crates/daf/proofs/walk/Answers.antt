-- `daf::walk` meets its contract: it runs as `counting` does, which is the walk of the definition (`walk_twice`). Assumes nothing.
use mathlib.Core.Path.{refl, sym, ◌∙◌}
use native.Mathlib.Omega.{arith}
use Rattle.daf.proofs.Walking.{counting_end, counting_past, counting_full, counting_next}
use Rattle.daf.proofs.SecondTime.{walk_twice}
use Rattle.daf.proofs.walk.Goals as goal

pub returns-then-r-eq0 : goal.returns-then-r-eq0
returns-then-r-eq0 c = sym (sym (walk_twice _ _) ∙ c.loop-n.invariant.2 ∙ counting_end _ _ _ _ c.if-r-eq0.true)

pub returns-then-past_end : goal.returns-then-past_end
returns-then-past_end c =
    sym
    (sym (walk_twice _ _)
    ∙ c.loop-n.invariant.2
    ∙ counting_past _ _ _ _ c.if-r-eq0.false (sym c.past_end.ensures ∙ c.if-past_end.true))

pub loop-n-preserved : goal.loop-n-preserved
loop-n-preserved c = (
  refl,
  omega arith,
  c.loop-n.invariant.2
      ∙ counting_next _ _ _ _ _ (omega arith) c.if-r-eq0.false
      (sym c.past_end.ensures ∙ c.if-past_end.false) c.next_record-r.ensures,
)

pub returns-else-past_end : goal.returns-else-past_end
returns-else-past_end c =
    sym
    (sym (walk_twice _ _)
    ∙ c.loop-n.invariant.2
    ∙ counting_full _ _ _ _ (omega arith) c.if-r-eq0.false (sym c.past_end.ensures ∙ c.if-past_end.false))

pub returns : goal.returns
returns c = absurd (omega arith)
