-- What the small functions of the code do. No promise of a public entry point needs these. Assumes nothing: these are definitions.
use Rattle.std.specs.Prelude.{ℕ, zero, ◌<◌, cond, List, [], ◌∷◌, ltb, leb, Float, Option, Some, None, Result, Ok, Err}
use Rattle.std.specs.Float.Ieee.{is_nan}
use Rattle.refusal.specs.declared.Refusal.{Refusal}
use Rattle.refusal.specs.declared.Refusal.TheVariants.{TableUnfit, EpochNan}
use Rattle.refusal.specs.Order.{case, first_of}
use Rattle.daf.specs.Names.{name_of}
use Rattle.segment.specs.declared.Segment.{Segment}
use Rattle.table.specs.Segments.{empty_segment, seg}

-- How many segments there are: none where the count is over the limit.
unfoldable pub counted : ℕ → ℕ → ℕ
counted limit n = cond (ltb limit n) zero n

-- The tests before any segment, in their order: a count over the limit (14), an epoch that is NaN (10).
unfoldable pub ready : ℕ → ℕ → Float → Result (Unit {0}) Refusal
ready limit n et = first_of (case (ltb limit n) TableUnfit ∷ case (is_nan et) EpochNan ∷ []) Err (Ok tt)

-- Segment i of the first n, else the empty one.
unfoldable pub seg_or : List Segment → ℕ → ℕ → Segment
seg_or segs n i = cond (ltb i n) (seg segs i) empty_segment

-- A choice's number is below a bound.
abbrev pub Within : ℕ → Option ℕ → Type 0
Within n (Some i) = i < n
Within n None = Unit {0}

-- The name of segment i of n, which is s.
unfoldable pub name_with : List ℕ → ℕ → ℕ → Segment → List ℕ
name_with k n i s = cond (leb n i) [] (name_of k s.name_at)
