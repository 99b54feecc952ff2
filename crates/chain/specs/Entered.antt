-- The segments whose numbers enter a walk's sum: those that its steps take, and not those that are evaluated and passed over. Assumes nothing: these
-- are definitions.
use Rattle.std.specs.Prelude.{ℕ, zero, suc, ◌<◌, ◌≡◌, true, false, ◌⊎◌, List, Ok}
use Rattle.segment.specs.declared.Segment.{Segment}
use Rattle.segment.specs.declared.Valued.{Valued}
use Rattle.table.specs.Segments.{seg}
use Rattle.chain.specs.declared.Leg.{Leg}
use Rattle.chain.specs.declared.Hop.{Hop}
use Rattle.chain.specs.declared.Step.TheVariants.{Kept}
use Rattle.chain.specs.Step.{Evaluation, leaves, reaches_zero, step_from}
use Rattle.chain.specs.Walk.{onward, returns}
use Rattle.chain.specs.When.{Past}

-- Segment i goes to body 0, and the scan goes past every segment before it.
abbrev pub Home : Evaluation → List Segment → Leg → ℕ → Type 0
Home ev segs leg i = (reaches_zero (seg segs i) ≡ true) × ((j : ℕ) → j < i → Past ev segs leg j)

-- No segment before i leaves the body, and the scan goes past all n.
abbrev pub First : Evaluation → List Segment → ℕ → Leg → ℕ → Type 0
First ev segs n leg i = ((j : ℕ) → j < i → leaves (seg segs j) leg ≡ false) × ((j : ℕ) → j < n → Past ev segs leg j)

-- A step takes segment i, which gives v: it leaves the body, and is the first whose center is 0, else the first.
pub record Taken (ev : Evaluation) (segs : List Segment) (n : ℕ) (leg : Leg) (i : ℕ) (v : Valued) : Type 0 where
  pub below : i < n
  pub leaving : leaves (seg segs i) leg ≡ true
  pub gives : ev (seg segs i) i leg.et ≡ Ok v
  pub chosen : Home ev segs leg i ⊎ First ev segs n leg i

-- Segment i, which gives v, enters the sum of a walk of at most so many steps: its step takes it; or the step leads to a body that is not the starting
-- one, and the segment enters from there on.
unfoldable pub Entered : Evaluation → List Segment → ℕ → Leg → ℕ → ℕ → Valued → Type 0
Entered ev segs n leg zero i v = ⊥
Entered ev segs n leg (suc left) i v =
    Taken ev segs n leg i v
    ⊎ ((hop : Hop) × (step_from ev segs n leg ≡ Kept hop) × (returns leg hop ≡ false) × Entered ev segs n (onward leg hop) left i v)

-- One of the segments that enter was stretched.
abbrev pub Stretches : Evaluation → List Segment → ℕ → Leg → ℕ → Type 0
Stretches ev segs n leg left = (i : ℕ) × (v : Valued) × Entered ev segs n leg left i v × (v.stretched ≡ true)
