-- The index that a caller lends: one list of numbers in four parts of equal length, and what an opening makes of it. What is over at its end is
-- not used. Assumes nothing: these are definitions.
use Rattle.std.specs.Prelude.{ℕ, zero, suc, ◌+◌, ◌-◌, ◌/◌, ◌≤◌, ◌<◌, Bool, ◌&&◌, List, ltb, leb, ℤ, length, get_or, set, take, drop}
use Rattle.segment.specs.declared.Segment.{Segment}
use Rattle.table.specs.Segments.{seg}
use Rattle.index.specs.Buckets.{bucket_of}
use Rattle.index.specs.Right.{IndexedDown, IndexedUp}

-- The length of a part: the number of buckets, and of segments that there is room for.
abbrev pub quarter : List ℕ → ℕ
quarter ix = length ix / 4

-- The parts: for each bucket its last segment, for each segment the last before it in its bucket; for each bucket its first segment, for each
-- segment the first after it.
unfoldable pub last_of : List ℕ → List ℕ
last_of ix = take (quarter ix) (drop 0 ix)

unfoldable pub below_of : List ℕ → List ℕ
below_of ix = take (quarter ix) (drop (quarter ix) ix)

unfoldable pub first_of : List ℕ → List ℕ
first_of ix = take (quarter ix) (drop (quarter ix + quarter ix) ix)

unfoldable pub above_of : List ℕ → List ℕ
above_of ix = take (quarter ix) (drop (quarter ix + quarter ix + quarter ix) ix)

-- An index of so many numbers has room for n segments: a bucket, and a link for each of them.
unfoldable pub room_in : ℕ → ℕ → Bool
room_in n len = ltb 0 (len / 4) && leb n (len / 4)

abbrev pub has_room : ℕ → List ℕ → Bool
has_room n ix = room_in n (length ix)

pub record Roomy (n : ℕ) (ix : List ℕ) : Type 0 where
  pub bucket : 0 < quarter ix
  pub room : n ≤ quarter ix

-- Segment i, whose target is `body`, joins the half that begins at place a in front of its bucket: it gets the bucket's entry as its link, and the
-- bucket's entry names it.
unfoldable pub joined_at : ℕ → List ℕ → ℕ → ℤ → List ℕ
joined_at a ix i body =
    let h = a + bucket_of (quarter ix) body in
    set (set ix (a + quarter ix + i) (get_or ix h 0)) h (i + 1)

-- It joins the descending half, which is the first; the ascending one.
unfoldable pub joined_down : List ℕ → ℕ → ℤ → List ℕ
joined_down ix = joined_at 0 ix

unfoldable pub joined_up : List ℕ → ℕ → ℤ → List ℕ
joined_up ix = joined_at (quarter ix + quarter ix) ix

-- The first i buckets of both halves are emptied.
unfoldable pub emptied : ℕ → List ℕ → List ℕ
emptied zero ix = ix
emptied (suc i) ix = set (set (emptied i ix) i 0) (quarter ix + quarter ix + i) 0

-- Of n segments the first i have joined the descending half in file order, and the last i the ascending one from the last on.
unfoldable pub joined : List Segment → ℕ → ℕ → List ℕ → List ℕ
joined segs n zero ix = ix
joined segs n (suc i) ix =
    let before = joined segs n i ix in
    joined_up (joined_down before i (seg segs i).target) (n - suc i) (seg segs (n - suc i)).target

-- The index of n segments, in place of what was there. Links past n and what is over stay.
unfoldable pub filled_index : List Segment → ℕ → List ℕ → List ℕ
filled_index segs n ix = joined segs n n (emptied (quarter ix) ix)

-- An index is right for n segments: both of its halves are.
pub record RightIndex (segs : List Segment) (n : ℕ) (ix : List ℕ) : Type 0 where
  pub down : IndexedDown segs n (last_of ix) (below_of ix)
  pub up : IndexedUp segs n 0 (first_of ix) (above_of ix)
