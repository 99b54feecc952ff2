-- A question, and what a segment is to it. Assumes nothing: these are definitions.
use Rattle.std.specs.Prelude.{Bool, ◌&&◌}
use Rattle.bits.specs.Same.{same_z}
use Rattle.segment.specs.declared.Segment.{Segment}
use Rattle.table.specs.Segments.{is_covering}
use Rattle.spk.specs.declared.Question.{Question}

-- Target equals center.
abbrev pub is_same : Question → Bool
is_same q = same_z q.target q.center

-- The same question with the pair swapped.
abbrev pub swapped : Question → Question
swapped q = record { target = q.center; center = q.target; et = q.et }

-- A segment is of the question's pair.
abbrev pub is_pair : Segment → Question → Bool
is_pair s q = same_z s.target q.target && same_z s.center q.center

-- It is of the pair and covers the epoch.
abbrev pub hits : Question → Segment → Bool
hits q s = is_pair s q && is_covering s q.et

-- A remembered segment serves the question: it is marked, of this pair, and covering.
abbrev pub serves : Question → Segment → Bool
serves q s = s.marked && hits q s
