-- The way to an opened table, as the code goes it: every segment is judged first, a plan is made, and the plan is carried out.
-- Assumes nothing: these are definitions.
use Rattle.std.specs.Prelude.{ℕ, zero, suc, ◌<◌, ◌≤◌, List, length, set, Result, Ok, Err}
use Rattle.refusal.specs.declared.Refusal.{Refusal}
use Rattle.refusal.specs.Order.{first_of}
use Rattle.daf.specs.Summaries.{place, summary_of}
use Rattle.daf.specs.FileRecord.{fward}
use Rattle.daf.specs.Opening.{records_of}
use Rattle.daf.specs.Steps.{cursor, seek_of, next_cursor, Standing}
use Rattle.daf.specs.declared.Family.{Family}
use Rattle.daf.specs.declared.Family.TheVariants.{Spk, Pck}
use Rattle.daf.specs.declared.Cursor.{Cursor}
use Rattle.segment.specs.Malformed.{judged}
use Rattle.segment.specs.declared.Segment.{Segment}
use Rattle.std.specs.Prelude.{unwrap_or}
use Rattle.table.specs.Segments.{empty_segment}
use Rattle.table.specs.Marks.{marked_to}
use Rattle.opening.specs.Opening.{places_of, segment_cases, open_cases}
use Rattle.opening.specs.declared.Filling.{Filling}

-- What an opening does: it fills so many places with the segments from a cursor on, or refuses.
abbrev pub Plan : Type 0
Plan = Result Filling Refusal

abbrev pub filling : ℕ → Cursor → Filling
filling n c = record { count = n; start = c }

-- Where the summaries start.
abbrev pub start_of : List ℕ → Cursor
start_of k = seek_of k (fward k) (length (records_of k))

-- After refusals 1 to 8.
unfoldable pub planned_from : Family → List ℕ → Plan
planned_from f k = first_of (segment_cases f k) Err (Ok (filling (length (places_of k)) (start_of k)))

unfoldable pub plan_of : Family → ℕ → List ℕ → Plan
plan_of f limit k = first_of (open_cases f limit k) Err (Ok (filling (length (places_of k)) (start_of k)))

abbrev pub count_in : Plan → ℕ
count_in (Ok p) = p.count
count_in (Err r) = zero

abbrev pub cursor_in : Plan → Cursor
cursor_in (Ok p) = p.start
cursor_in (Err r) = cursor 0 0 0 0

abbrev pub found_in : Plan → Result ℕ Refusal
found_in (Ok p) = Ok p.count
found_in (Err r) = Err r

-- How many are marked.
abbrev pub marks_for : Family → ℕ → ℕ
marks_for Spk n = n
marks_for Pck n = zero

-- A summary stands at the cursor; and at each of the n cursors from c on.
abbrev pub Here : List ℕ → Cursor → Type 0
Here k c = Standing k c × (c.index < c.count)

unfoldable pub cursor_at : List ℕ → Cursor → ℕ → Cursor
cursor_at k c zero = c
cursor_at k c (suc i) = next_cursor k (cursor_at k c i)

unfoldable pub Ready : List ℕ → Cursor → ℕ → Type 0
Ready k c n = (i : ℕ) → i < n → Here k (cursor_at k c i)

-- The segment of the summary at a cursor, unmarked. The filling meets no malformed one.
unfoldable pub here_of : Family → List ℕ → Cursor → Segment
here_of f k c = unwrap_or (judged f k (summary_of f k (place c.rec c.index))) empty_segment

-- The first n places hold the segments from the cursor on.
unfoldable pub filled : Family → List ℕ → Cursor → List Segment → ℕ → List Segment
unfolding cursor_at
filled f k c segs zero = segs
filled f k c segs (suc i) = set (filled f k c segs i) i (here_of f k (cursor_at k c i))

-- A plan that can be carried out in so many places; and what the table then holds.
abbrev pub Fits : ℕ → List ℕ → Plan → Type 0
Fits places k p = (count_in p ≤ places) × Ready k (cursor_in p) (count_in p)

abbrev pub carried_out : Family → List ℕ → Plan → List Segment → List Segment
carried_out f k p segs = marked_to (filled f k (cursor_in p) segs (count_in p)) (marks_for f (count_in p)) (marks_for f (count_in p))
