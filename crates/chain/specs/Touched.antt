-- The segments that a walk evaluates: what "its own bytes" means of a chain. Assumes nothing: these are definitions.
use Rattle.std.specs.Prelude.{ℕ, zero, suc, ◌≡◌, true, false, List}
use Rattle.segment.specs.declared.Segment.{Segment}
use Rattle.table.specs.Segments.{seg}
use Rattle.chain.specs.declared.Leg.{Leg}
use Rattle.chain.specs.declared.Step.{Step}
use Rattle.chain.specs.declared.Step.TheVariants.{Blocked}
use Rattle.chain.specs.declared.Next.{Next}
use Rattle.chain.specs.declared.Next.TheVariants.{Ended, Onward}
use Rattle.chain.specs.Step.{Evaluation, leaves, look, is_end, step_from}
use Rattle.chain.specs.Walk.{advance}

-- P holds of the number of each segment that the rest of a scan evaluates: one that leaves the body, before the scan has ended.
unfoldable pub TouchedIn : Evaluation → List Segment → (ℕ → Type 0) → Leg → Step → ℕ → ℕ → Type 0
TouchedIn ev segs P leg kept i zero = Unit {0}
TouchedIn ev segs P leg kept i (suc r) =
    (leaves (seg segs i) leg ≡ true → P i)
    × (is_end (look ev leg kept (seg segs i) i) ≡ false → TouchedIn ev segs P leg (look ev leg kept (seg segs i) i) (suc i) r)

-- A statement of the next leg, if there is one.
abbrev pub of_next : (Leg → Type 0) → Next → Type 0
of_next S (Ended e) = Unit {0}
of_next S (Onward on) = S on

-- P holds of the number of each segment that a walk of at most so many steps evaluates.
unfoldable pub TouchedOn : Evaluation → List Segment → ℕ → (ℕ → Type 0) → Leg → ℕ → Type 0
TouchedOn ev segs n P leg zero = Unit {0}
TouchedOn ev segs n P leg (suc left) =
    TouchedIn ev segs P leg Blocked 0 n × of_next (λ on. TouchedOn ev segs n P on left) (advance leg (step_from ev segs n leg))
