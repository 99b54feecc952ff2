use Rattle.std.proofs.Common.{sym}
use Rattle.opening.proofs.Planning.{filled_none, cursor_none, ready_at}
use Rattle.lent.proofs.Scanning.{fill_more}
use Rattle.lent.proofs.fill.Goals as goal

pub loop-i-init : goal.loop-i-init
loop-i-init c = (sym (filled_none c.args.family c.args.kernel.now c.args.start c.args.table.now), sym (cursor_none c.args.kernel.now c.args.start))

pub segment_here-s-requires : goal.segment_here-s-requires
segment_here-s-requires c = rw c.loop-i.invariant.1 (ready_at c.args.kernel.now c.args.start c.args.n c.loop-i.i c.requires.1 c.loop-i-test.true)

pub cursor_after-c-requires : goal.cursor_after-c-requires
cursor_after-c-requires c = rw c.loop-i.invariant.1 (ready_at c.args.kernel.now c.args.start c.args.n c.loop-i.i c.requires.1 c.loop-i-test.true)

pub loop-i-preserved : goal.loop-i-preserved
loop-i-preserved c =
    fill_more c.args.family c.args.kernel.now c.args.start c.args.table.now c.loop-i.i c.loop-i.table c.put_segment.new.table c.loop-i.c c.cursor_after-c.result
    c.segment_here-s.result c.loop-i.invariant.0 c.loop-i.invariant.1 c.segment_here-s.ensures c.put_segment.ensures c.cursor_after-c.ensures
