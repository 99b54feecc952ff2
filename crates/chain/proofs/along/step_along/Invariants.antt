-- Whatever the iterator visits, the whole scan is the scan of what it has left, from what is kept.
use Rattle.std.proofs.Common.{ℕ, List, length}
use Rattle.daf.specs.declared.Family.TheVariants.{Spk}
use Rattle.segment.specs.Evaluating.{evaluated}
use Rattle.table.specs.Places.{limit_of}
use Rattle.table.specs.Visits.{Visits}
use Rattle.chain.specs.declared.Step.TheVariants.{Blocked}
use Rattle.chain.specs.Visited.{step_over}
use Rattle.chain.proofs.Visited.{Along}
use Rattle.chain.proofs.along.step_along.Given as goal

abbrev pub invariant-loop-i : goal.invariant-loop-i
invariant-loop-i g l =
    (goal.iterator-loop-i g).can_next l.i-iterator
    × (goal.iterator-loop-i g).is_finite l.i-iterator
    × ((xs : List ℕ) → Visits (goal.iterator-loop-i g).next_gives l.fn.visits (limit_of (length l.segments)) xs
    → Along (goal.iterator-loop-i g).next_gives (limit_of (length l.segments)) (evaluated Spk l.kernel) l.segments l.leg
    (step_over (evaluated Spk l.kernel) l.segments l.leg Blocked xs) l.i-iterator l.kept)
