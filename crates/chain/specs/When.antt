-- When a walk ends in a refusal: what the statements about refusal 11, and about a segment's own, say. Assumes nothing: these are definitions.
use Rattle.std.specs.Prelude.{ℕ, zero, suc, ◌<◌, ◌≡◌, Bool, true, false, ◌||◌, ◌⊎◌, List, eqb, Float, ℤ, Ok, Err}
use Rattle.refusal.specs.declared.Refusal.{Refusal}
use Rattle.refusal.specs.Numbers.{number_of}
use Rattle.segment.specs.declared.Segment.{Segment}
use Rattle.segment.specs.declared.Valued.{Valued}
use Rattle.table.specs.Segments.{seg}
use Rattle.chain.specs.declared.Leg.{Leg}
use Rattle.chain.specs.declared.Hop.{Hop}
use Rattle.chain.specs.declared.Step.{Step}
use Rattle.chain.specs.declared.Step.TheVariants.{Blocked, Kept, Zero, Refused}
use Rattle.chain.specs.Step.{Evaluation, leaves, reaches_zero, step_from}
use Rattle.chain.specs.Walk.{onward, returns}

-- The refusals of a segment's own evaluation: 12, 13 and 14.
abbrev pub is_own : Refusal → Bool
is_own r = eqb (number_of r) 12 || eqb (number_of r) 13 || eqb (number_of r) 14

-- An evaluation gives no other.
abbrev pub OwnOnly : Evaluation → Type 0
OwnOnly ev = (s : Segment) (i : ℕ) (et : Float) (r : Refusal) → ev s i et ≡ Err r → is_own r ≡ true

-- One of two statements, by a test.
abbrev pub by_test : Bool → Type 0 → Type 0 → Type 0
by_test true A B = A
by_test false A B = B

-- The step leaves the walk stuck at body b, where `go` says it of the next leg: no covering segment leaves b, the current body; or the
-- step goes back to b, the starting body; or the walk is stuck from the next leg on.
abbrev pub stuck_after : Leg → ℤ → (Leg → Type 0) → Step → Type 0
stuck_after leg b go Blocked = leg.body ≡ b
stuck_after leg b go (Kept hop) = by_test (returns leg hop) (leg.start ≡ b) (go (onward leg hop))
stuck_after leg b go (Zero x) = ⊥
stuck_after leg b go (Refused r) = ⊥

-- A walk of at most so many steps is stuck at body b: the starting body, where no step is left.
unfoldable pub Stuck : Evaluation → List Segment → ℕ → Leg → ℕ → ℤ → Type 0
Stuck ev segs n leg zero b = leg.start ≡ b
Stuck ev segs n leg (suc left) b = stuck_after leg b (λ on. Stuck ev segs n on left b) (step_from ev segs n leg)

-- A step's scan goes past segment j: it doesn't leave the body, or it is evaluated to a state and its center is not body 0.
abbrev pub Past : Evaluation → List Segment → Leg → ℕ → Type 0
Past ev segs leg j =
    leaves (seg segs j) leg ≡ true → (reaches_zero (seg segs j) ≡ false) × ((x : Valued) × (ev (seg segs j) j leg.et ≡ Ok x))

-- A step is refused with r by segment i: it leaves the body and is evaluated to r, and the scan goes past every segment before it.
pub record RefusedAt (ev : Evaluation) (segs : List Segment) (n : ℕ) (leg : Leg) (i : ℕ) (r : Refusal) : Type 0 where
  pub below : i < n
  pub leaving : leaves (seg segs i) leg ≡ true
  pub gives : ev (seg segs i) i leg.et ≡ Err r
  pub past : (j : ℕ) → j < i → Past ev segs leg j

-- A walk of at most so many steps is refused with r by segment i: its step is; or the step leads to a body that is not the starting one, and the
-- walk is from there on.
unfoldable pub Failed : Evaluation → List Segment → ℕ → Leg → ℕ → ℕ → Refusal → Type 0
Failed ev segs n leg zero i r = ⊥
Failed ev segs n leg (suc left) i r =
    RefusedAt ev segs n leg i r
    ⊎ ((hop : Hop) × (step_from ev segs n leg ≡ Kept hop) × (returns leg hop ≡ false) × Failed ev segs n (onward leg hop) left i r)
