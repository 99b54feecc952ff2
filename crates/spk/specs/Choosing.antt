-- Which segment answers a question, and what is remembered after it. Assumes nothing: these are definitions.
use Rattle.std.specs.Prelude.{ℕ, cond, ◌&&◌, List, ltb, Option, Some, None}
use Rattle.segment.specs.declared.Segment.{Segment}
use Rattle.table.specs.Segments.{seg}
use Rattle.table.specs.Choosing.{last_in}
use Rattle.std.specs.Option.{option_or}
use Rattle.spk.specs.declared.Question.{Question}
use Rattle.spk.specs.Questions.{hits, serves, swapped}

-- What is remembered: the number of the segment that the last forward choice of a marked segment chose, or nothing.
abbrev pub Memory : Type 0
Memory = Option ℕ

-- The remembered segment, if its number is below the count and it serves the question.
unfoldable pub recall : List Segment → ℕ → Memory → Question → Option ℕ
recall segs n None q = None
recall segs n (Some i) q = cond (ltb i n && serves q (seg segs i)) (Some i) None

-- Forward with no memory: the pair's last covering segment in file order.
abbrev pub last_forward : List Segment → ℕ → Question → Option ℕ
last_forward segs n q = last_in (hits q) segs n

-- Reversed: likewise with the pair swapped.
abbrev pub last_reversed : List Segment → ℕ → Question → Option ℕ
last_reversed segs n q = last_in (hits (swapped q)) segs n

-- Forward with a memory: the remembered segment, else the last in file order.
unfoldable pub forward_in : List Segment → ℕ → Memory → Question → Option ℕ
forward_in segs n m q = option_or (recall segs n m q) (last_forward segs n q)

-- A forward choice of a marked segment is remembered.
abbrev pub remembered_at : Memory → ℕ → Segment → Memory
remembered_at m i s = cond s.marked (Some i) m

-- All else leaves the memory.
abbrev pub remembered : List Segment → Memory → Option ℕ → Memory
remembered segs m (Some i) = remembered_at m i (seg segs i)
remembered segs m None = m
