-- `interp::lagrange::epochs_at` meets its contract. The loop's invariant: the array has 32 places, and the first i hold the epochs. Assumes nothing.
use mathlib.Core.Path.{◌≡◌}
use lib.ListN.{length}
use Rattle.bits.specs.Bytes.{every}
use Rattle.bits.proofs.Fill.{Filled}
use Rattle.interp.proofs.lagrange.epochs_at.Given as goal

abbrev pub invariant-loop-i : goal.invariant-loop-i
invariant-loop-i l = (length l.xs ≡ 32) × Filled (every 8 l.kernel l.e) l.i l.xs
