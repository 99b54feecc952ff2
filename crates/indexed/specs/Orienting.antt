-- A question to a PCK through an index, whatever this holds. Assumes nothing: these are definitions.
use Rattle.std.specs.Prelude.{ℕ, cond, List, Option, unwrap_or}
use Rattle.segment.specs.declared.Segment.{Segment}
use Rattle.table.specs.Steps.{seg_or}
use Rattle.index.specs.Visiting.{last_by}
use Rattle.index.specs.Parts.{last_of, below_of, has_room}
use Rattle.pck.specs.declared.Question.{Question}
use Rattle.pck.specs.declared.Oriented.{Oriented}
use Rattle.pck.specs.Orienting.{hits, oriented}
use Rattle.pck.specs.Steps as finding

-- The last covering segment of the body frame that the walk down the index finds.
abbrev pub body_found : List Segment → ℕ → List ℕ → Question → Option ℕ
body_found segs n ix q = last_by (hits q) segs n (last_of ix) (below_of ix) q.body

-- Through the index: the order without one, with what the walk finds handed in.
abbrev pub oriented_through : ℕ → List ℕ → List Segment → ℕ → List ℕ → Question → Oriented
oriented_through limit k segs n ix q = finding.oriented_with limit k n q (body_found segs n ix q) (seg_or segs n (unwrap_or (body_found segs n ix q) n))

-- Through the index, and without it where it has no room for the table.
unfoldable pub oriented_with : ℕ → List ℕ → List Segment → ℕ → List ℕ → Question → Oriented
oriented_with limit k segs n ix q = cond (has_room n ix) (oriented_through limit k segs n ix q) (oriented limit k segs n q)
