use Rattle.std.proofs.Common.{◌∙◌, length, ap}
use Rattle.table.specs.Places.{limit_of}
use Rattle.opening.specs.Steps.{found_in, carried_out}
use Rattle.opening.specs.Told.{found_told}
use Rattle.opening.proofs.Planned.{plan_ready, found_told_lem, table_told}
use Rattle.indexed.specs.Opening.{indexed_by}
use Rattle.indexed.proofs.Opening.{plan_limit, index_told}
use Rattle.indexed.proofs.open.Goals as goal

pub carry_out-requires : goal.carry_out-requires
carry_out-requires c =
    let a = c.args in
    rw c.plan_of-p.ensures (plan_ready a.family (length a.table.now) a.kernel.now, plan_limit a.family (length a.table.now) a.kernel.now)

pub returns-clause-value : goal.returns-clause-value
returns-clause-value c =
    let a = c.args in
    let limit = limit_of (length a.table.now) in (
      c.found_in.ensures ∙ ap found_in c.plan_of-p.ensures ∙ found_told_lem a.family limit a.kernel.now,
      (
        c.carry_out.ensures.0 ∙ ap (λ p. carried_out a.family a.kernel.now p a.table.now) c.plan_of-p.ensures ∙ table_told a.family a.kernel.now a.table.now,
        c.carry_out.ensures.1 ∙ ap (λ p. indexed_by p (carried_out a.family a.kernel.now p a.table.now) a.ix.now) c.plan_of-p.ensures ∙ index_told a.family a.kernel.now a.table.now a.ix.now,
      ),
    )

pub returns-clause-told : goal.returns-clause-told
returns-clause-told c =
    let a = c.args in
    ap found_told (c.found_in.ensures ∙ ap found_in c.plan_of-p.ensures ∙ found_told_lem a.family (limit_of (length a.table.now)) a.kernel.now)
