-- The marks: a segment is marked where no other of the same target and center overlaps it. Assumes nothing: these are definitions.
use Rattle.std.specs.Prelude.{ℕ, zero, suc, ◌<◌, ◌≡◌, Bool, false, not, ◌&&◌, ◌||◌, List, eqb, set}
use Rattle.segment.specs.declared.Segment.{Segment}
use Rattle.table.specs.declared.Table.{Table}
use Rattle.table.specs.Segments.{overlaps, with_mark, seg}

-- Segment k, which is b, is another than segment i, which is a, and overlaps it.
abbrev pub rivals : Segment → ℕ → Segment → ℕ → Bool
rivals a i b k = not (eqb k i) && overlaps a b

-- Of the first n segments another than the ith overlaps a.
unfoldable pub others : List Segment → Segment → ℕ → ℕ → Bool
others segs a i zero = false
others segs a i (suc n) = rivals a i (seg segs n) n || others segs a i n

-- The mark of segment i in a table of n.
abbrev pub mark : List Segment → ℕ → ℕ → Bool
mark segs n i = not (others segs (seg segs i) i n)

-- The first k segments have their marks, of a table of n.
unfoldable pub marked_to : List Segment → ℕ → ℕ → List Segment
marked_to segs n zero = segs
marked_to segs n (suc k) = set (marked_to segs n k) k (with_mark (seg segs k) (mark segs n k))

-- The whole table with its marks. Places past the count stay.
abbrev pub marks : Table → Table
marks t = record { segments = marked_to t.segments t.count t.count; count = t.count }

-- The marks of a table are those that an opening sets.
unfoldable pub MarkedRight : List Segment → ℕ → Type 0
MarkedRight segs n = (i : ℕ) → i < n → (seg segs i).marked ≡ mark segs n i
