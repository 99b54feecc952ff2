-- The opening of a kernel: refusals 1 to 9 in their order, or its table.
use Rattle.std.specs.Prelude.{ℕ, suc, ◌-◌, Bool, cond, List, [], ◌∷◌, ◌++◌, map, ltb, length, replicate, Ok, Err}
use Rattle.refusal.specs.declared.Refusal.{Refusal}
use Rattle.refusal.specs.declared.Refusal.TheVariants.{Malformed}
use Rattle.refusal.specs.Order.{Case, case, first_of}
use Rattle.daf.specs.Summaries.{places, summary_of}
use Rattle.daf.specs.Opening.{cases, records_of}
use Rattle.daf.specs.declared.Family.{Family}
use Rattle.daf.specs.declared.Family.TheVariants.{Spk, Pck}
use Rattle.daf.specs.declared.Place.{Place}
use Rattle.daf.specs.declared.Summary.{Summary}
use Rattle.segment.specs.Malformed.{malformed, segment_of}
use Rattle.segment.specs.declared.Segment.{Segment}
use Rattle.table.specs.Segments.{empty_segment}
use Rattle.table.specs.Places.{table_limit, empty_table}
use Rattle.table.specs.Marks.{marks}
use Rattle.table.specs.declared.Table.{Table}
use Rattle.opening.specs.declared.Opened.{Opened}

-- The places of a kernel's summaries, in file order: segment number n stands at the nth.
abbrev pub places_of : List ℕ → List Place
places_of k = places k (records_of k)

-- Its summary fails a test of refusal 9.
abbrev pub malformed_summary : Family → List ℕ → Summary → Bool
malformed_summary f k s = malformed f k s.first s.last s.data_type s.start s.end

-- How many segments stand before the first that is malformed: all of them where none is.
unfoldable pub well_formed : Family → List ℕ → List Place → ℕ
well_formed f k [] = 0
well_formed f k (p ∷ ps) =
    let rest = well_formed f k ps in
    cond (malformed_summary f k (summary_of f k p)) 0 (suc rest)

-- The segment at a place, unmarked.
abbrev pub segment_at : Family → List ℕ → Place → Segment
segment_at f k p = segment_of f k (summary_of f k p)

-- The segments of a kernel in file order.
abbrev pub segments_of : Family → List ℕ → List Segment
segments_of f k = map (segment_at f k) (places_of k)

-- A table of these segments: places past the count hold the empty one.
abbrev pub table_of : List Segment → Table
table_of segs = record { segments = segs ++ replicate (table_limit - length segs) empty_segment; count = length segs }

-- The marks: an SPK's are by overlap, and PCK segments are unmarked.
abbrev pub marked_for : Family → Table → Table
marked_for Spk t = marks t
marked_for Pck t = t

-- A refused opening: a table of 0 segments.
abbrev pub refused_opening : Refusal → Opened
refused_opening r = record { outcome = Err r; table = empty_table }

abbrev pub accepted_opening : Table → Opened
accepted_opening t = record { outcome = Ok tt; table = t }

-- Refusal 9: the first malformed segment in file order, by its number.
abbrev pub segment_cases : Family → List ℕ → List Case
segment_cases f k = case (ltb (well_formed f k (places_of k)) (length (places_of k))) (Malformed (well_formed f k (places_of k))) ∷ []

-- Refusals 1 to 9, in their order, with the table's limit.
abbrev pub open_cases : Family → ℕ → List ℕ → List Case
open_cases f limit k = cases f limit k ++ segment_cases f k

-- The opening, with the table by value.
unfoldable pub opened : Family → List ℕ → Opened
opened f k = first_of (open_cases f table_limit k) refused_opening (accepted_opening (marked_for f (table_of (segments_of f k))))
