-- `interp::lagrange::weight` meets its contract. The loop's invariant: w is the product of the factors before j. Assumes nothing.
use mathlib.Core.Path.{◌≡◌}
use Rattle.bits.specs.F64.{at}
use Rattle.interp.specs.Lagrange.{factors}
use Rattle.interp.proofs.lagrange.weight.Given as goal

abbrev pub invariant-loop-j : goal.invariant-loop-j
invariant-loop-j l = l.w ≡ factors (at l.xs) l.i l.j
