-- The opening into a lent table and its index; marks through an index, whatever this holds. Assumes nothing: these are definitions.
use Rattle.std.specs.Prelude.{ℕ, Bool, false, cond, List, length, Result, Ok, Err}
use Rattle.daf.specs.declared.Family.{Family}
use Rattle.segment.specs.declared.Segment.{Segment}
use Rattle.opening.specs.Steps.{Plan, count_in}
use Rattle.opening.specs.Lent.{found, table_after}
use Rattle.index.specs.Visiting.{head_of, down}
use Rattle.index.specs.Parts.{last_of, below_of, room_in, has_room, filled_index}
use Rattle.index.specs.Marking.{others_of}
use Rattle.refusal.specs.declared.Refusal.{Refusal}

-- Of the segments that the walk down from segment a's target visits another than the ith overlaps it.
abbrev pub others_by : List Segment → ℕ → List ℕ → Segment → ℕ → Bool
others_by segs n ix a i = others_of segs a i (down (below_of ix) n (head_of (last_of ix) a.target))

-- A plan fills an index of so many numbers: it is accepted, and there is room.
abbrev pub takes : ℕ → Plan → Bool
takes len (Ok p) = room_in p.count len
takes len (Err r) = false

-- The index after a plan, of the segments that it filled.
unfoldable pub indexed_by : Plan → List Segment → List ℕ → List ℕ
indexed_by p segs ix = cond (takes (length ix) p) (filled_index segs (count_in p) ix) ix

-- The index after an opening: an accepted one fills it with the index of the table, where there is room for the segments; else it stays.
abbrev pub index_with : Result ℕ Refusal → List Segment → List ℕ → List ℕ
index_with (Ok n) segs ix = cond (has_room n ix) (filled_index segs n ix) ix
index_with (Err r) segs ix = ix

unfoldable pub index_after : Family → ℕ → List ℕ → List Segment → List ℕ → List ℕ
index_after family limit k segs ix = index_with (found family limit k) (table_after family limit k segs) ix
