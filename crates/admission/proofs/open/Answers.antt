-- `admission::open` meets its contract: the plan can be carried out, and what it results in is the definition's. Assumes nothing.
use mathlib.Core.Path.{◌∙◌, ap, sym, subst}
use Prim.Native.Nat.{◌≤◌}
use native.Mathlib.Nat.{le_refl}
use Rattle.table.specs.Places.{table_limit, empty_places}
use Rattle.opening.specs.Steps.{Plan, Fits, carried_out}
use Rattle.owned.specs.Owned.{opened_by}
use Rattle.admission.proofs.Ways.{plan_for_fits, opened_for_lem}
use borrow.Author.Rules.{rules}
use Rattle.admission.proofs.open.Goals as goal

pub open_by-requires : goal.open_by-requires
open_by-requires c =
    let a = c.args in
    subst (Fits table_limit a.kernel.now) (sym c.plan_short-p.ensures) (plan_for_fits a.family table_limit a.size a.mark a.kernel.now a.file.now table_limit (le_refl table_limit))

pub returns : goal.returns
returns c =
    let a = c.args in
    c.open_by.ensures
    ∙ ap (λ (p : Plan). opened_by p (carried_out a.family a.kernel.now p (empty_places table_limit))) c.plan_short-p.ensures
    ∙ opened_for_lem a.family a.size a.mark a.kernel.now a.file.now
