-- The whole output of `listing`, as a list of ASCII codes: RULES, "Programs".
use Rattle.std.specs.Prelude.{ℕ, zero, suc, List, [], ◌∷◌, ◌++◌, ltb, length}
use Rattle.refusal.specs.declared.Refusal.TheVariants.{InputTooLong}
use Rattle.refusal.specs.Order.{case, first_of}
use Rattle.daf.specs.declared.Family.TheVariants.{Spk}
use Rattle.segment.specs.declared.Segment.{Segment}
use Rattle.table.specs.Places.{lent_limit, empty_places}
use Rattle.table.specs.Segments.{seg}
use Rattle.opening.specs.Opening.{places_of, open_cases}
use Rattle.opening.specs.Lent.{table_after}
use Rattle.lines.specs.Text.{refusal_text}
use Rattle.streams.specs.Input.{input_limit}
use Rattle.listing_text.specs.Lines.{segment_text, count_text}

-- The table that the kernel's opening leaves in 4,096 places, and how many segments it has.
unfoldable pub table_in : List ℕ → List Segment
table_in kernel = table_after Spk lent_limit kernel (empty_places lent_limit)

abbrev pub count_in : List ℕ → ℕ
count_in kernel = length (places_of kernel)

-- The lines of n segments of a table from number i on.
unfoldable pub segments_from : List Segment → ℕ → ℕ → List ℕ
segments_from segs i zero = []
segments_from segs i (suc n) = segment_text i (seg segs i) ++ segments_from segs (suc i) n

-- The listing of a kernel: the line of its opening's refusal alone, or how many segments there are and a line for each.
unfoldable pub listing_text : List ℕ → List ℕ
listing_text kernel =
    first_of (open_cases Spk lent_limit kernel) refusal_text (count_text (count_in kernel) ++ segments_from (table_in kernel) 0 (count_in kernel))

-- What the program prints: 18 comes first.
unfoldable pub listing_output : List ℕ → List ℕ
listing_output kernel = first_of (case (ltb input_limit (length kernel)) InputTooLong ∷ []) refusal_text (listing_text kernel)
