use Rattle.std.proofs.Common.{◌≡◌, ◌∙◌, length, ap, arith}
use Rattle.daf.specs.declared.Family.TheVariants.{Spk}
use Rattle.segment.specs.Evaluating.{evaluated}
use Rattle.table.specs.Places.{limit_of}
use Rattle.table.specs.Steps.{counted}
use Rattle.table.proofs.Limits.{limit_told, counted_most}
use Rattle.pck.proofs.Alone.{alone_told}
use Rattle.pck.specs.Told.{oriented_told}
use Rattle.lent.proofs.orient_alone.Goals as goal

pub segment_or-s-requires : goal.segment_or-s-requires
segment_or-s-requires c =
    let n = counted (limit_of (length c.args.table.now)) c.args.n in
    let most = limit_told (length c.args.table.now) n (counted_most (limit_of (length c.args.table.now)) c.args.n) in
    rw (c.counted-m.ensures, c.table_len-places.ensures) most.0

pub returns-clause-value : goal.returns-clause-value
returns-clause-value c =
    rw (c.alone_by.ensures, c.segment_or-s.ensures, c.counted-m.ensures, c.table_len-places.ensures)
    (alone_told (limit_of (length c.args.table.now)) c.args.kernel.now c.args.table.now c.args.n c.args.number c.args.et)

pub returns-clause-told : goal.returns-clause-told
returns-clause-told c =
    ap oriented_told (rw (c.alone_by.ensures, c.segment_or-s.ensures, c.counted-m.ensures, c.table_len-places.ensures)
    (alone_told (limit_of (length c.args.table.now)) c.args.kernel.now c.args.table.now c.args.n c.args.number c.args.et))
