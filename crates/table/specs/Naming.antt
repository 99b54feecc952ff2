-- The name of a segment by its number. Assumes nothing: these are definitions.
use Rattle.std.specs.Prelude.{ℕ, cond, ◌||◌, List, [], ltb, leb}
use Rattle.daf.specs.Names.{name_of}
use Rattle.segment.specs.declared.Segment.{Segment}
use Rattle.table.specs.Segments.{seg}

-- The name at the segment's place; empty if there is no such segment, and a table whose count is over the limit has none.
unfoldable pub name_at : ℕ → List ℕ → List Segment → ℕ → ℕ → List ℕ
name_at limit k segs n i = cond (ltb limit n || leb n i) [] (name_of k (seg segs i).name_at)
