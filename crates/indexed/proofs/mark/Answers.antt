use Rattle.std.proofs.Common.{◌≡◌, ◌∙◌, true, sym, arith}
use Rattle.index.specs.Parts.{has_room}
use Rattle.index.proofs.Parts.{room_yes}
use Rattle.indexed.proofs.Opening.{marks_nothing}
use Rattle.indexed.proofs.mark.Goals as goal

pub returns-then-n-lt1 : goal.returns-then-n-lt1
returns-then-n-lt1 c = marks_nothing c.args.table.now c.args.n c.if-n-lt1.true

pub mark_all-requires : goal.mark_all-requires
mark_all-requires c =
    let a = c.args in
    let room : has_room a.n a.ix.now ≡ true = sym c.has_room.ensures ∙ c.if-has_room.true in
    (c.requires.0, (room_yes a.n a.ix.now room, c.requires.1 (omega arith) room))
