-- The lines of the listing, as ASCII codes.
use Rattle.std.specs.Prelude.{ℕ, Bool, List, [], ◌∷◌, ◌++◌}
use Rattle.lines.specs.Text.{space, newline, decimal_text, field_text, number_text, yes_text}
use Rattle.segment.specs.declared.Segment.{Segment}

-- `yes` or `no` after a space, and the newline.
unfoldable pub mark_text : Bool → List ℕ
mark_text b = yes_text b ++ (newline ∷ [])

-- Target, center, frame, type.
unfoldable pub head_text : Segment → List ℕ
head_text s = field_text s.target ++ (field_text s.center ++ (field_text s.frame ++ field_text s.data_type))

-- Both epochs as bits, both addresses, whether it is marked.
unfoldable pub span_text : Segment → List ℕ
unfolding mark_text
span_text s = number_text s.first ++ (number_text s.last ++ (field_text s.start ++ (field_text s.end ++ mark_text s.marked)))

-- The line of segment i.
unfoldable pub segment_text : ℕ → Segment → List ℕ
unfolding head_text span_text
segment_text i s = decimal_text i ++ (head_text s ++ span_text s)

-- The first line: `segments` and how many there are.
unfoldable pub count_text : ℕ → List ℕ
count_text n = (115 ∷ 101 ∷ 103 ∷ 109 ∷ 101 ∷ 110 ∷ 116 ∷ 115 ∷ space ∷ []) ++ (decimal_text n ++ (newline ∷ []))
