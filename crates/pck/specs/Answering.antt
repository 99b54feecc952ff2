-- What a question to a PCK gives, over a kernel and a table: a lent one, with its count, or one by value. Assumes nothing: these are definitions.
use Rattle.std.specs.Prelude.{ℕ, List, Float, length}
use Rattle.segment.specs.declared.Segment.{Segment}
use Rattle.table.specs.declared.Table.{Table}
use Rattle.table.specs.Places.{table_limit, limit_of}
use Rattle.pck.specs.declared.Question.{Question}
use Rattle.pck.specs.declared.Oriented.{Oriented}
use Rattle.pck.specs.Orienting.{oriented}
use Rattle.pck.specs.Alone.{alone_oriented}

-- An orientation; a segment alone: over the first n segments of a lent table, whose limit goes by its places.
abbrev pub lent_oriented : List ℕ → List Segment → ℕ → Question → Oriented
lent_oriented kernel table n q = oriented (limit_of (length table)) kernel table n q

abbrev pub lent_alone_oriented : List ℕ → List Segment → ℕ → ℕ → Float → Oriented
lent_alone_oriented kernel table n number et = alone_oriented (limit_of (length table)) kernel table n number et

-- The same over a table by value, whose limit is 256.
abbrev pub owned_oriented : List ℕ → Table → Question → Oriented
owned_oriented kernel table q = oriented table_limit kernel table.segments table.count q

abbrev pub owned_alone_oriented : List ℕ → Table → ℕ → Float → Oriented
owned_alone_oriented kernel table number et = alone_oriented table_limit kernel table.segments table.count number et
