use Rattle.std.proofs.Common.{◌∙◌, length, sym, ap}
use Rattle.table.specs.Places.{limit_of}
use Rattle.index.proofs.Parts.{room_yes}
use Rattle.pck.specs.Told.{oriented_told}
use Rattle.indexed.proofs.Orienting.{with_room, without_room}
use Rattle.indexed.proofs.orient.Goals as goal

pub turn-requires : goal.turn-requires
turn-requires c = room_yes c.args.n c.args.ix.now (sym c.has_room.ensures ∙ c.if-has_room.true)

pub returns-then-has_room-clause-value : goal.returns-then-has_room-clause-value
returns-then-has_room-clause-value c =
    let a = c.args in
    c.turn.ensures ∙ with_room (limit_of (length a.table.now)) a.kernel.now a.table.now a.n a.q a.ix.now (sym c.has_room.ensures ∙ c.if-has_room.true)

pub returns-then-has_room-clause-told : goal.returns-then-has_room-clause-told
returns-then-has_room-clause-told c =
    let a = c.args in
    ap oriented_told (c.turn.ensures ∙ with_room (limit_of (length a.table.now)) a.kernel.now a.table.now a.n a.q a.ix.now (sym c.has_room.ensures ∙ c.if-has_room.true))

pub returns-clause-value : goal.returns-clause-value
returns-clause-value c =
    let a = c.args in
    c.orient.ensures.value ∙ without_room (limit_of (length a.table.now)) a.kernel.now a.table.now a.n a.q a.ix.now (sym c.has_room.ensures ∙ c.if-has_room.false)

pub returns-clause-told : goal.returns-clause-told
returns-clause-told c =
    let a = c.args in
    ap oriented_told (c.orient.ensures.value ∙ without_room (limit_of (length a.table.now)) a.kernel.now a.table.now a.n a.q a.ix.now (sym c.has_room.ensures ∙ c.if-has_room.false))
