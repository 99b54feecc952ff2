-- `cheby::val_and_deriv` meets its contract. The loop's invariant: k is j + 2, and the sums are those of k terms. Assumes nothing.
use Prim.Native.Nat.{ℕ, suc}
use mathlib.Core.Path.{◌≡◌}
use Rattle.cheby.specs.Steps.{Summed}
use Rattle.cheby.proofs.val_and_deriv.Given as goal

abbrev pub invariant-loop-k : goal.invariant-loop-k
invariant-loop-k l = (j : ℕ) × (l.k ≡ suc (suc j)) × Summed l.kernel l.p l.n l.s j l.z
