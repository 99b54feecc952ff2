-- `cheby::all_clear` meets its contract. The loop's invariant: where the sums are finite none of the first 8 i doubles is a NaN.
use Prim.Native.Nat.{◌*◌}
use mathlib.Core.Path.{◌≡◌}
use mathlib.Core.Bool.{true}
use Rattle.bits.specs.Bytes.{every}
use Rattle.cheby.specs.Steps.{all_numbers, all_finite}
use Rattle.cheby.proofs.all_clear.Given as goal

abbrev pub invariant-loop-i : goal.invariant-loop-i
invariant-loop-i l = all_finite l.z ≡ true → all_numbers (every 8 l.kernel l.p) (8 * l.i) ≡ true
