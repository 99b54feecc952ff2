use Rattle.std.proofs.Common.{◌≡◌, length, arith}
use Rattle.table.specs.Places.{limit_of}
use Rattle.table.specs.Steps.{counted}
use Rattle.table.proofs.Limits.{limit_told, counted_most}
use Rattle.table.proofs.Names.{name_told}
use Rattle.lent.proofs.name.Goals as goal

pub segment_or-s-requires : goal.segment_or-s-requires
segment_or-s-requires c =
    let n = counted (limit_of (length c.args.table.now)) c.args.n in
    let most = limit_told (length c.args.table.now) n (counted_most (limit_of (length c.args.table.now)) c.args.n) in
    rw (c.counted-m.ensures, c.table_len-places.ensures) most.0

pub returns : goal.returns
returns c =
    rw (c.name_in.ensures, c.segment_or-s.ensures, c.counted-m.ensures, c.table_len-places.ensures)
    (name_told (limit_of (length c.args.table.now)) c.args.kernel.now c.args.table.now c.args.n c.args.number)
