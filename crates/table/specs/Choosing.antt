-- The last segment in file order that passes a test. Assumes nothing: these are definitions.
use Rattle.std.specs.Prelude.{ℕ, zero, suc, Bool, cond, List, Option, Some, None}
use Rattle.segment.specs.declared.Segment.{Segment}
use Rattle.table.specs.Segments.{seg}

-- The last of the first n segments that passes the test: it is the (n - 1)th, or among those before it. antt computes what a `let`
-- binds only where it is asked for, so a closed case stops at the segment that it finds.
unfoldable pub last_in : (Segment → Bool) → List Segment → ℕ → Option ℕ
last_in test segs zero = None
last_in test segs (suc n) =
    let rest = last_in test segs n in
    cond (test (seg segs n)) (Some n) rest
