use Rattle.std.proofs.Common.{◌≡◌, ◌∙◌, ap}
use Rattle.table.specs.Places.{table_limit, empty_places}
use Rattle.opening.specs.Steps.{carried_out}
use Rattle.opening.specs.Told.{opened_told}
use Rattle.opening.proofs.Planned.{plan_ready}
use Rattle.owned.specs.Owned.{opened_by}
use Rattle.owned.proofs.Owning.{opened_told_lem}
use Rattle.owned.proofs.open.Goals as goal

pub open_by-requires : goal.open_by-requires
open_by-requires c = rw c.plan_of-p.ensures (plan_ready c.args.family table_limit c.args.kernel.now)

pub returns-clause-value : goal.returns-clause-value
returns-clause-value c =
    let a = c.args in
    c.open_by.ensures ∙ ap (λ p. opened_by p (carried_out a.family a.kernel.now p (empty_places table_limit))) c.plan_of-p.ensures ∙ opened_told_lem a.family a.kernel.now

pub returns-clause-told : goal.returns-clause-told
returns-clause-told c =
    let a = c.args in
    ap opened_told (c.open_by.ensures ∙ ap (λ p. opened_by p (carried_out a.family a.kernel.now p (empty_places table_limit))) c.plan_of-p.ensures ∙ opened_told_lem a.family a.kernel.now)
