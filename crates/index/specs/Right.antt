-- The index of a table as an opening fills it. Assumes nothing: these are definitions.
use Rattle.std.specs.Prelude.{ℕ, zero, suc, ◌+◌, ◌-◌, ◌≤◌, ◌<◌, ◌≡◌, Bool, cond, List, [], ◌∷◌, ℤ, length, get_or, set, Option, Some, None}
use Rattle.segment.specs.declared.Segment.{Segment}
use Rattle.table.specs.Segments.{seg}
use Rattle.table.specs.Choosing.{last_in}
use Rattle.index.specs.Buckets.{bucket_of, in_bucket, bucket_at}
use Rattle.index.specs.Visiting.{entry_of, head_of}

-- The first of r segments from number i on that passes the test.
unfoldable pub first_in : (Segment → Bool) → List Segment → ℕ → ℕ → Option ℕ
first_in test segs i zero = None
first_in test segs i (suc r) =
    let rest = first_in test segs (suc i) r in
    cond (test (seg segs i)) (Some i) rest

-- The numbers of the first n segments that pass the test, from the last to the first.
unfoldable pub all_down : (Segment → Bool) → List Segment → ℕ → List ℕ
all_down test segs zero = []
all_down test segs (suc n) =
    let rest = all_down test segs n in
    cond (test (seg segs n)) (n ∷ rest) rest

-- The numbers of those that pass of r segments from number i on, in file order.
unfoldable pub all_up : (Segment → Bool) → List Segment → ℕ → ℕ → List ℕ
all_up test segs i zero = []
all_up test segs i (suc r) =
    let rest = all_up test segs (suc i) r in
    cond (test (seg segs i)) (i ∷ rest) rest

-- The descending index of the first n segments: `last` has for each bucket its last segment, `below` for each segment the last before
-- it in its bucket.
pub record IndexedDown (segs : List Segment) (n : ℕ) (last below : List ℕ) : Type 0 where
  pub heads : (h : ℕ) → h < length last → get_or last h 0 ≡ entry_of (last_in (in_bucket (length last) h) segs n)
  pub links : (i : ℕ) → i < n
      → get_or below i 0 ≡ entry_of (last_in (in_bucket (length last) (bucket_at (length last) segs i)) segs i)

-- The ascending index of the segments from number i on, of n: `first` has for each bucket its first segment, `above` for each segment
-- the first after it in its bucket.
pub record IndexedUp (segs : List Segment) (n i : ℕ) (first above : List ℕ) : Type 0 where
  pub heads : (h : ℕ) → h < length first → get_or first h 0 ≡ entry_of (first_in (in_bucket (length first) h) segs i (n - i))
  pub links : (j : ℕ) → i ≤ j → j < n
      → get_or above j 0 ≡ entry_of (first_in (in_bucket (length first) (bucket_at (length first) segs j)) segs (suc j) (n - suc j))

-- Segment i, whose target is `body`, joins its bucket in front: it gets the bucket's entry as its link, and the bucket's entry names it.
abbrev pub linked : List ℕ → List ℕ → ℕ → ℤ → List ℕ
linked heads links i body = set links i (head_of heads body)

abbrev pub headed : List ℕ → ℕ → ℤ → List ℕ
headed heads i body = set heads (bucket_of (length heads) body) (i + 1)
