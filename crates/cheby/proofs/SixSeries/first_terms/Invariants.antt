-- `cheby::SixSeries::first_terms` meets its contract. The loop's invariant: k is j + 2, and the sums are those of k terms. Assumes nothing.
use Prim.Native.Nat.{ℕ, suc, ◌+◌, ◌*◌}
use mathlib.Core.Path.{◌≡◌}
use Rattle.cheby.specs.Steps.{SixSummed}
use Rattle.cheby.proofs.SixSeries.first_terms.Given as goal

abbrev pub invariant-loop-k : goal.invariant-loop-k
invariant-loop-k l = (j : ℕ) × (l.k ≡ suc (suc j)) × SixSummed l.self.kernel.now l.self.at (l.self.at + 24 * l.self.n) l.self.n l.s j l.z
