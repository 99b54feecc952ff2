-- The table's places. Every other definition is over the list of segments and a count, and takes the limit as an argument.
-- Assumes nothing: these are definitions.
use Rattle.std.specs.Prelude.{ℕ, cond, List, ltb, replicate}
use Rattle.segment.specs.declared.Segment.{Segment}
use Rattle.table.specs.declared.Table.{Table}
use Rattle.table.specs.Segments.{empty_segment}

-- The most segments that a table holds.
abbrev pub table_limit : ℕ
table_limit = 256

-- The most that a lent one holds.
abbrev pub lent_limit : ℕ
lent_limit = 4096

-- The limit of a table of so many places: they, and 4,096 at most.
abbrev pub limit_of : ℕ → ℕ
limit_of places = cond (ltb lent_limit places) lent_limit places

-- A table of n places, all empty. It stays shut, so that no check writes its segments out.
unfoldable pub empty_places : ℕ → List Segment
empty_places n = replicate n empty_segment

-- The table of no segments: every place holds the empty one.
abbrev pub empty_table : Table
empty_table = record { segments = replicate table_limit empty_segment; count = 0 }
