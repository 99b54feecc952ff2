-- `table::ready` meets its contract: an answer for each way. Assumes nothing.
use mathlib.Core.Path.{sym, ap, ◌∙◌}
use Prim.Native.Nat.{ℕ}
use Rattle.table.specs.Steps.{ready}
use Rattle.table.proofs.Early.{ready_over, ready_nan, ready_yes}
use Rattle.table.proofs.ready.Goals as goal

pub returns-then-limit-n : goal.returns-then-limit-n
returns-then-limit-n c = ready_over _ _ _ c.if-limit-n.true ∙ ap (λ (l : ℕ). ready l c.args.n c.args.et) c.limit_of-limit.ensures

pub returns-then-is_nan : goal.returns-then-is_nan
returns-then-is_nan c = ready_nan _ _ _ c.if-limit-n.false (sym c.is_nan.ensures.value ∙ c.if-is_nan.true) ∙ ap (λ (l : ℕ). ready l c.args.n c.args.et) c.limit_of-limit.ensures

pub returns : goal.returns
returns c = ready_yes _ _ _ c.if-limit-n.false (sym c.is_nan.ensures.value ∙ c.if-is_nan.false) ∙ ap (λ (l : ℕ). ready l c.args.n c.args.et) c.limit_of-limit.ensures
