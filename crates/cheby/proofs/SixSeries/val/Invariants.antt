-- `cheby::SixSeries::val` meets its contract. The loop's invariant: the sums have 4 i terms more than the first.
use Prim.Native.Nat.{◌+◌, ◌-◌, ◌*◌, ◌%◌}
use Rattle.cheby.specs.Steps.{SixSummed}
use Rattle.cheby.proofs.SixSeries.val.Given as goal

abbrev pub invariant-loop-i : goal.invariant-loop-i
invariant-loop-i l = SixSummed l.self.kernel.now l.self.at (l.self.at + 24 * l.self.n) l.self.n l.s ((l.self.n - 2) % 4 + 4 * l.i) l.z
