-- AN ORIENTATION DEPENDS ON NOTHING IN THE KERNEL BUT THE CHOSEN SEGMENT'S OWN DOUBLES, and where no segment covers the epoch,
-- on nothing of it. Assumes nothing.
use Prim.Native.Nat.{ℕ}
use mathlib.Core.Path.{◌≡◌, refl, ap}
use mathlib.Core.List.{List, [], ◌∷◌}
use lib.Dec.{ltb, leb}
use lib.IntN.{nat_abs}
use lib.Ieee.{Float, is_nan}
use Rattle.refusal.specs.declared.Refusal.TheVariants.{TableUnfit, EpochNan, NoSegment}
use Rattle.refusal.specs.Order.{case, first_of}
use Rattle.daf.specs.declared.Family.TheVariants.{Pck}
use Rattle.segment.specs.declared.Segment.{Segment}
use Rattle.segment.proofs.OwnBytes.{Agrees, own_bytes}
use Rattle.std.proofs.Common.{Option, Some, None}
use Rattle.table.specs.Segments.{seg}
use Rattle.pck.specs.declared.Question.{Question}
use Rattle.pck.specs.declared.Oriented.{Oriented}
use Rattle.pck.specs.Orienting.{refused_oriented, settled, chosen, oriented_by, oriented}
use Rattle.pck.specs.Alone.{alone_with, alone_oriented}

-- Two kernels hold the doubles of the chosen segment, and the same ones.
abbrev pub Alike : List ℕ → List ℕ → List Segment → Option ℕ → Type 0
Alike k k' segs (Some i) = Agrees k k' (nat_abs (seg segs i).start) (nat_abs (seg segs i).end)
Alike k k' segs None = Unit {0}

-- **own-bytes**: two kernels that are alike in the chosen segment give the same orientation, refusal or answer.
pub oriented_own : (limit : ℕ) (k k' : List ℕ) (segs : List Segment) (n : ℕ) (q : Question) → Alike k k' segs (chosen segs n q)
    → oriented limit k segs n q ≡ oriented limit k' segs n q
unfolding oriented
oriented_own limit k k' segs n q a =
    ap (λ (x : Oriented). first_of (case (ltb limit n) TableUnfit ∷ case (is_nan q.et) EpochNan ∷ []) refused_oriented x)
    (by (chosen segs n q) a)
  where
    by : (c : Option ℕ) → Alike k k' segs c → oriented_by k segs q c ≡ oriented_by k' segs q c
    by (Some i) b = ap (settled (seg segs i)) (own_bytes Pck k k' (seg segs i) i q.et b)
    by None b = refl

-- The same of a segment alone: it depends on its own doubles.
pub alone_own_bytes : (limit : ℕ) (k k' : List ℕ) (segs : List Segment) (n i : ℕ) (et : Float) → Alike k k' segs (Some i)
    → alone_oriented limit k segs n i et ≡ alone_oriented limit k' segs n i et
unfolding alone_with
alone_own_bytes limit k k' segs n i et a =
    ap (λ (x : Oriented). first_of (case (ltb limit n) TableUnfit ∷ case (is_nan et) EpochNan ∷ case (leb n i) NoSegment ∷ []) refused_oriented x)
    (ap (settled (seg segs i)) (own_bytes Pck k k' (seg segs i) i et a))
