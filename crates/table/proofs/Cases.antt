-- Worked marks and choices, one table under one statement each, which antt computes. Assumes nothing.
use Prim.Native.Nat.{ℕ}
use mathlib.Core.Path.{◌≡◌, refl}
use mathlib.Core.Bool.{true, false, ◌&&◌}
use mathlib.Core.List.{List, [], ◌∷◌, map}
use lib.IntN.{pos}
use lib.Ieee.{Float, nan, le, of_int}
use Rattle.bits.specs.F64.{whole}
use Rattle.bits.specs.Same.{same_z}
use Rattle.segment.specs.declared.Segment.{Segment}
use Rattle.segment.specs.declared.Kind.TheVariants.{Unsupported}
use Rattle.std.proofs.Common.{Some, None}
use Rattle.table.specs.Segments.{is_covering}
use Rattle.table.specs.Choosing.{last_in}
use Rattle.table.specs.Marks.{others, marked_to}

-- a segment of a pair and two epochs
abbrev of_pair : ℕ → ℕ → Float → Float → Segment
of_pair t c a b =
    record {
      target = pos t;
      center = pos c;
      frame = pos 1;
      data_type = pos 2;
      start = pos 1;
      end = pos 9;
      first = a;
      last = b;
      name_at = 0;
      marked = true;
      kind = Unsupported;
    }

-- 399 about 3 from 0 to 10, from 10 to 12 and from 13 to 20; 399 about 0 from 0 to 20; 399 about 3 the wrong way round, over a NaN, and 8 about
-- 3 twice the same
abbrev eight : List Segment
eight =
    of_pair 399 3 (whole 0) (whole 10) ∷ of_pair 399 3 (whole 10) (whole 12) ∷ of_pair 399 3 (whole 13) (whole 20) ∷ of_pair 399 0 (whole 0) (whole 20)
    ∷ of_pair 399 3 (whole 30) (whole 25) ∷ of_pair 399 3 nan (whole 50) ∷ of_pair 8 3 (whole 0) (whole 1) ∷ of_pair 8 3 (whole 0) (whole 1) ∷ []

-- times that touch overlap; other pairs do not; a segment that covers nothing overlaps none here; a count of 7 leaves the last unseen
pub mark-cases :
    map (λ (s : Segment). s.marked) (marked_to eight 8 8) ∷ map (λ (s : Segment). s.marked) (marked_to eight 7 7) ∷ []
    ≡ (false ∷ false ∷ true ∷ true ∷ true ∷ true ∷ false ∷ false ∷ []) ∷ (false ∷ false ∷ true ∷ true ∷ true ∷ true ∷ true ∷ true ∷ []) ∷ []
unfolding marked_to others le of_int
mark-cases = refl

-- the last in file order, the ends included; nothing covers a NaN, and a NaN limit covers nothing
pub last-cases :
    map (λ (et : Float). last_in (λ s. same_z s.center (pos 3) && is_covering s et) eight 6) (whole 3 ∷ whole 10 ∷ whole 12 ∷ whole 20 ∷ whole 27 ∷ whole 40 ∷ nan ∷ [])
    ≡ Some 0 ∷ Some 1 ∷ Some 1 ∷ Some 2 ∷ None ∷ None ∷ None ∷ []
unfolding last_in le of_int
last-cases = refl
