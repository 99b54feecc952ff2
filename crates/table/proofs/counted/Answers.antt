-- `table::counted` meets its contract: an answer for each way. Assumes nothing.
use mathlib.Core.Path.{ap, ◌∙◌}
use Prim.Native.Nat.{ℕ}
use Rattle.table.specs.Steps.{counted}
use Rattle.table.proofs.Limits.{counted_over, counted_all}
use Rattle.table.proofs.counted.Goals as goal

pub returns-then-limit_of-n : goal.returns-then-limit_of-n
returns-then-limit_of-n c = counted_over _ _ c.if-limit_of-n.true ∙ ap (λ (l : ℕ). counted l c.args.n) c.limit_of.ensures

pub returns-else-limit_of-n : goal.returns-else-limit_of-n
returns-else-limit_of-n c = counted_all _ _ c.if-limit_of-n.false ∙ ap (λ (l : ℕ). counted l c.args.n) c.limit_of.ensures
