-- `cheby::ClearSeries::val_and_deriv` meets its contract. The loop's invariant: the sums have 4 i terms more than the first.
use Prim.Native.Nat.{◌+◌, ◌-◌, ◌*◌, ◌%◌}
use Rattle.cheby.specs.Steps.{Summed}
use Rattle.cheby.proofs.ClearSeries.val_and_deriv.Given as goal

abbrev pub invariant-loop-i : goal.invariant-loop-i
invariant-loop-i l = Summed l.self.kernel.now l.self.at l.self.n l.s ((l.self.n - 2) % 4 + 4 * l.i) l.z
