use Rattle.std.proofs.Common.{◌∙◌, length, sym, ap}
use Rattle.daf.specs.declared.Family.TheVariants.{Spk}
use Rattle.segment.specs.Evaluating.{evaluated}
use Rattle.table.specs.Places.{limit_of}
use Rattle.index.proofs.Parts.{room_yes}
use Rattle.spk.specs.Told.{asked_told}
use Rattle.indexed.proofs.Asking.{with_room, without_room}
use Rattle.indexed.proofs.state.Goals as goal

pub through-requires : goal.through-requires
through-requires c = room_yes c.args.n c.args.ix.now (sym c.has_room.ensures ∙ c.if-has_room.true)

pub returns-then-has_room-clause-value : goal.returns-then-has_room-clause-value
returns-then-has_room-clause-value c =
    let a = c.args in
    c.through.ensures ∙ with_room (limit_of (length a.table.now)) (evaluated Spk a.kernel.now) a.table.now a.n a.ix.now a.memory a.q (sym c.has_room.ensures ∙ c.if-has_room.true)

pub returns-then-has_room-clause-told : goal.returns-then-has_room-clause-told
returns-then-has_room-clause-told c =
    let a = c.args in
    ap asked_told (c.through.ensures ∙ with_room (limit_of (length a.table.now)) (evaluated Spk a.kernel.now) a.table.now a.n a.ix.now a.memory a.q (sym c.has_room.ensures ∙ c.if-has_room.true))

pub returns-clause-value : goal.returns-clause-value
returns-clause-value c =
    let a = c.args in
    c.state.ensures.value ∙ without_room (limit_of (length a.table.now)) (evaluated Spk a.kernel.now) a.table.now a.n a.ix.now a.memory a.q (sym c.has_room.ensures ∙ c.if-has_room.false)

pub returns-clause-told : goal.returns-clause-told
returns-clause-told c =
    let a = c.args in
    ap asked_told (c.state.ensures.value ∙ without_room (limit_of (length a.table.now)) (evaluated Spk a.kernel.now) a.table.now a.n a.ix.now a.memory a.q (sym c.has_room.ensures ∙ c.if-has_room.false))
