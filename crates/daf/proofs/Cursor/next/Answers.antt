-- `daf::Cursor::next` meets its contract. Assumes nothing.
use mathlib.Core.Path.{sym, ◌∙◌}
use Rattle.daf.proofs.Cursors.{next_here, next_seek, stands_here, stands_next}
use Rattle.daf.proofs.Cursor.next.Goals as goal

pub returns-then-index-count : goal.returns-then-index-count
returns-then-index-count c = sym (next_here _ _ c.if-index-count.true)

pub next_record-r-requires : goal.next_record-r-requires
next_record-r-requires c =
    stands_here c.args.kernel.now c.args.self c.requires.0 c.requires.1

pub seek-requires : goal.seek-requires
seek-requires c = stands_next _ _ _ c.next_record-r.ensures c.requires.0

pub returns : goal.returns
returns c = c.seek.ensures ∙ sym (next_seek _ _ _ c.if-index-count.false c.next_record-r.ensures)
