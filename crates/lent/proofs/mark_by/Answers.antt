use Rattle.std.proofs.Common.{rules, ◌≡◌, ◌∙◌, length, ap}
use Rattle.table.proofs.Marks.{marked_none, length_marked}
use Rattle.lent.proofs.Scanning.{mark_more}
use Rattle.lent.proofs.mark_by.Goals as goal

pub loop-i-init : goal.loop-i-init
loop-i-init g c = marked_none c.args.table.now c.args.n

pub has_rival-met-requires : goal.has_rival-met-requires
has_rival-met-requires g c =
    let kept : length c.loop-i.table ≡ length c.args.table.now = ap length c.loop-i.invariant ∙ length_marked c.args.table.now c.args.n c.loop-i.i in
    let can = c.requires.tells in
    search rules

pub loop-i-preserved : goal.loop-i-preserved
loop-i-preserved g c =
    let met = c.requires.right _ c.segment_at-a.result c.loop-i.i c.has_rival-met.result c.loop-i.invariant c.segment_at-a.ensures c.has_rival-met.ensures in
    mark_more c.args.table.now c.args.n c.loop-i.i c.loop-i.table c.put_segment.new.table c.segment_at-a.result c.has_rival-met.result c.marked_by-s.result
    c.loop-i.invariant c.segment_at-a.ensures met c.marked_by-s.ensures c.put_segment.ensures
