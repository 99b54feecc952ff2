use Rattle.std.proofs.Common.{◌≡◌, ◌∙◌, length, ap}
use Rattle.table.specs.Places.{limit_of}
use Rattle.opening.specs.Steps.{found_in, carried_out}
use Rattle.opening.specs.Told.{found_told}
use Rattle.opening.proofs.Planned.{plan_ready, found_told_lem, table_told}
use Rattle.lent.proofs.open.Goals as goal

pub carry_out-requires : goal.carry_out-requires
carry_out-requires c = rw c.plan_of-p.ensures (plan_ready c.args.family (length c.args.table.now) c.args.kernel.now)

pub returns-clause-value : goal.returns-clause-value
returns-clause-value c =
    let a = c.args in
    let limit = limit_of (length a.table.now) in (
      c.found_in.ensures ∙ ap found_in c.plan_of-p.ensures ∙ found_told_lem a.family limit a.kernel.now,
      c.carry_out.ensures ∙ ap (λ p. carried_out a.family a.kernel.now p a.table.now) c.plan_of-p.ensures ∙ table_told a.family a.kernel.now a.table.now,
    )

pub returns-clause-told : goal.returns-clause-told
returns-clause-told c =
    let a = c.args in
    ap found_told (c.found_in.ensures ∙ ap found_in c.plan_of-p.ensures ∙ found_told_lem a.family (limit_of (length a.table.now)) a.kernel.now)
