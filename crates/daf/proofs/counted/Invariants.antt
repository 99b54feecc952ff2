-- `daf::counted` meets its contract: what was passed has no count over 25, and its sum is `total`. Assumes nothing.
use mathlib.Core.Path.{◌≡◌}
use Prim.Native.Nat.{◌+◌, ◌-◌, ◌*◌, ◌≤◌}
use Rattle.daf.specs.Summaries.{any_over25, total as sum_of}
use Rattle.daf.specs.Steps.{along, Sound}
use Rattle.daf.proofs.counted.Given as goal

abbrev pub invariant-loop : goal.invariant-loop
invariant-loop l =
    let left = l.n - l.counter in
    (l.counter ≤ l.n)
    × (l.total ≤ 25 * l.counter)
    × Sound l.kernel l.r left
    × (any_over25 l.kernel (along l.kernel l.first l.n) ≡ any_over25 l.kernel (along l.kernel l.r left))
    × (sum_of l.kernel (along l.kernel l.first l.n) ≡ l.total + sum_of l.kernel (along l.kernel l.r left))
