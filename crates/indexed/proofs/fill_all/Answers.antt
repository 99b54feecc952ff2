use Rattle.std.proofs.Common.{◌≡◌, ◌∙◌, sym, ap, arith}
use Rattle.index.specs.Parts.{quarter, emptied, joined}
use Rattle.index.proofs.Parts.{joined_none}
use Rattle.indexed.proofs.Opening.{filled_told, limit_less}
use Rattle.indexed.proofs.Scanning.{join_more, join_room}
use Rattle.indexed.proofs.fill_all.Goals as goal

pub loop-i-init : goal.loop-i-init
loop-i-init c = c.clear.ensures ∙ sym (joined_none c.args.table.now c.args.n (emptied (quarter c.args.ix.now) c.args.ix.now))

pub join-requires : goal.join-requires
join-requires c =
    let a = c.args in
    ((join_room a.table.now a.n c.loop-i.i a.ix.now c.loop-i.ix c.requires.1.room (omega arith) c.loop-i.invariant, limit_less a.n c.requires.0.1), omega arith)

pub loop-i-preserved : goal.loop-i-preserved
loop-i-preserved c =
    let a = c.args in
    join_more a.table.now a.n c.loop-i.i (emptied (quarter a.ix.now) a.ix.now) c.loop-i.ix c.join.new.ix c.mirrored-j.result c.segment_at-s.result c.segment_at-u.result
    c.loop-i.invariant c.segment_at-s.ensures c.mirrored-j.ensures c.segment_at-u.ensures c.join.ensures

pub returns : goal.returns
returns c =
    let a = c.args in
    let all : c.loop-i.i ≡ a.n = omega arith in
    c.loop-i.invariant ∙ ap (λ i. joined a.table.now a.n i (emptied (quarter a.ix.now) a.ix.now)) all ∙ filled_told a.table.now a.n a.ix.now
