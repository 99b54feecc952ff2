-- What a walk through an index visits, whatever the index holds. Assumes nothing: these are definitions.
-- An entry of an index is one more than a segment's number, or 0 for none. `heads` has an entry for each bucket, `links` one for each
-- segment: the next to visit after it. A walk goes on only as long as the numbers fall (`down`) or rise (`up`), and so it ends.
use Rattle.std.specs.Prelude.{ℕ, zero, suc, Bool, cond, List, [], ◌∷◌, eqb, ℤ, length, get_or, Option, Some, None}
use Rattle.segment.specs.declared.Segment.{Segment}
use Rattle.table.specs.Segments.{seg}
use Rattle.index.specs.Buckets.{bucket_of}

-- The entry that names a choice.
abbrev pub entry_of : Option ℕ → ℕ
entry_of (Some i) = suc i
entry_of None = 0

-- The entry of a body's bucket: where a walk starts.
abbrev pub head_of : List ℕ → ℤ → ℕ
head_of heads body = get_or heads (bucket_of (length heads) body) 0

-- The numbers that a walk down from entry e visits among the first k segments: number k - 1, if the entry names it, and then by its
-- link; else among those before it. An entry that names none of them ends it. There is one recursive call: with one in each arm of
-- a `cond` a closed case would take 2 ^ k steps.
unfoldable pub down : List ℕ → ℕ → ℕ → List ℕ
down links zero e = []
down links (suc k) e =
    let here = eqb e (suc k) in
    let rest = down links k (cond here (get_or links k 0) e) in
    cond here (k ∷ rest) rest

-- The numbers that a walk up from entry e visits among r segments from number i on.
unfoldable pub up : List ℕ → ℕ → ℕ → ℕ → List ℕ
up links i zero e = []
up links i (suc r) e =
    let here = eqb e (suc i) in
    let rest = up links (suc i) r (cond here (get_or links i 0) e) in
    cond here (i ∷ rest) rest

-- The first of these segments that passes the test.
unfoldable pub chosen_of : (Segment → Bool) → List Segment → List ℕ → Option ℕ
chosen_of test segs [] = None
chosen_of test segs (i ∷ rest) =
    let later = chosen_of test segs rest in
    cond (test (seg segs i)) (Some i) later

-- The first segment that passes the test on the walk down from a body's bucket, in a table of n.
unfoldable pub last_by : (Segment → Bool) → List Segment → ℕ → List ℕ → List ℕ → ℤ → Option ℕ
last_by test segs n last below body = chosen_of test segs (down below n (head_of last body))
