-- A segment of a PCK evaluated alone, covering or not: RULES, "Evaluating a segment"; and when it is refused. Assumes nothing: these are
-- definitions.
use Rattle.std.specs.Prelude.{ℕ, ◌≤◌, ◌<◌, ◌≡◌, true, false, ◌⊎◌, List, [], ◌∷◌, ltb, leb, Float, Err}
use Rattle.std.specs.Float.Ieee.{is_nan}
use Rattle.refusal.specs.declared.Refusal.{Refusal}
use Rattle.refusal.specs.declared.Refusal.TheVariants.{TableUnfit, EpochNan, NoSegment}
use Rattle.refusal.specs.Order.{case, first_of}
use Rattle.frame.specs.State.{finite_state}
use Rattle.daf.specs.declared.Family.TheVariants.{Pck}
use Rattle.segment.specs.declared.Segment.{Segment}
use Rattle.segment.specs.declared.Valued.{Valued}
use Rattle.std.specs.Prelude.{Result, Ok, Err}
use Rattle.segment.specs.Evaluating.{evaluated}
use Rattle.table.specs.Segments.{seg}
use Rattle.pck.specs.declared.Oriented.{Oriented}
use Rattle.pck.specs.Orienting.{refused_oriented, settled}

-- The order: a count over the limit (14), an epoch that is NaN (10), no segment of that number (17), the segment's tests, 15. Segment i is s.
unfoldable pub alone_with : ℕ → List ℕ → ℕ → ℕ → Float → Segment → Oriented
alone_with limit k n i et s =
    first_of (case (ltb limit n) TableUnfit ∷ case (is_nan et) EpochNan ∷ case (leb n i) NoSegment ∷ []) refused_oriented (settled s (evaluated Pck k s i et))

-- Segment i of the table.
abbrev pub alone_oriented : ℕ → List ℕ → List Segment → ℕ → ℕ → Float → Oriented
alone_oriented limit k segs n i et = alone_with limit k n i et (seg segs i)

-- ---- when it is refused

-- Past the first three tests: the count fits, the epoch is no NaN, and there is such a segment.
pub record PastAlone (limit n i : ℕ) (et : Float) : Type 0 where
  pub fits : n ≤ limit
  pub number : is_nan et ≡ false
  pub below : i < n

module _ (limit : ℕ) (k : List ℕ) (segs : List Segment) (n i : ℕ) (et : Float) where
  -- It is refused so.
  abbrev pub AloneBy : Refusal → Type 0
  AloneBy r = (alone_oriented limit k segs n i et).outcome ≡ Err r

  -- What it is evaluated to.
  abbrev pub alone_value : Result Valued Refusal
  alone_value = evaluated Pck k (seg segs i) i et

  -- 10: the count fits, and the epoch is NaN.
  pub record Alone10 : Type 0 where
    pub fits : n ≤ limit
    pub nan : is_nan et ≡ true

  -- 17: the count fits, the epoch is no NaN, and there is no segment of that number.
  pub record Alone17 : Type 0 where
    pub fits : n ≤ limit
    pub number : is_nan et ≡ false
    pub past : n ≤ i

  -- 12, 13 and the segment's 14: it is evaluated to the refusal.
  pub record AloneOwn (r : Refusal) : Type 0 where
    pub past : PastAlone limit n i et
    pub given : alone_value ≡ Err r

  -- 14: the count is over the limit, or the segment doesn't fit the kernel.
  abbrev pub Alone14 : Type 0
  Alone14 = (limit < n) ⊎ AloneOwn TableUnfit

  -- 15: it gives six numbers, and one of them is not finite.
  pub record Alone15 : Type 0 where
    pub past : PastAlone limit n i et
    pub value : Valued
    pub given : alone_value ≡ Ok value
    pub not_finite : finite_state value.state ≡ false
