-- `opening::plan_of` meets its contract: an answer for each way. Assumes nothing.
use mathlib.Core.Path.{sym, ap, ◌∙◌}
use Prim.Native.Nat.{ℕ}
use Rattle.opening.specs.Steps.{plan_of}
use Rattle.opening.proofs.Planning.{plan_refused, plan_read}
use Rattle.std.proofs.lemmas.Result.{err_from_is_err_and}
use Rattle.opening.proofs.plan_of.Goals as goal

pub returns-in_err-d : goal.returns-in_err-d
returns-in_err-d c =
    let p = err_from_is_err_and c.from_residual.result c.from_residual.ensures.1 in
    rw (p.1, p.2) (plan_refused c.args.family _ c.args.kernel.now _ (sym c.open.ensures ∙ c.in_err-d.was) ∙ ap (λ (l : ℕ). plan_of c.args.family l c.args.kernel.now) c.limit_of-limit.ensures)

pub returns : goal.returns
returns c = c.plan_from.ensures ∙ plan_read c.args.family _ c.args.kernel.now _ (sym c.open.ensures ∙ c.in_ok-d.was) ∙ ap (λ (l : ℕ). plan_of c.args.family l c.args.kernel.now) c.limit_of-limit.ensures
