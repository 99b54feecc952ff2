-- The opening into a lent table: what it results in, and what the table holds after it. Assumes nothing: these are definitions.
use Rattle.std.specs.Prelude.{ℕ, List, ◌++◌, length, drop, Result, Ok, Err}
use Rattle.refusal.specs.Order.{first_of}
use Rattle.daf.specs.declared.Family.{Family}
use Rattle.daf.specs.declared.Family.TheVariants.{Spk, Pck}
use Rattle.segment.specs.declared.Segment.{Segment}
use Rattle.table.specs.Marks.{marked_to}
use Rattle.opening.specs.Opening.{places_of, segments_of, open_cases}
use Rattle.refusal.specs.declared.Refusal.{Refusal}

-- What the opening results in.
unfoldable pub found : Family → ℕ → List ℕ → Result ℕ Refusal
found f limit k = first_of (open_cases f limit k) Err (Ok (length (places_of k)))

-- The first places hold these segments, and the others what they held.
abbrev pub filled_with : List Segment → List Segment → List Segment
filled_with vs segs = vs ++ drop (length vs) segs

-- The first n with their marks: an SPK's are by overlap, and PCK segments are unmarked.
abbrev pub marked_list : Family → ℕ → List Segment → List Segment
marked_list Spk n segs = marked_to segs n n
marked_list Pck n segs = segs

-- What the table holds after it: a refused opening leaves all of it.
unfoldable pub table_after : Family → ℕ → List ℕ → List Segment → List Segment
table_after f limit k segs =
    first_of (open_cases f limit k) (λ r. segs) (marked_list f (length (places_of k)) (filled_with (segments_of f k) segs))
