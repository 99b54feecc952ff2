-- `hermite::first_column` meets its contract. The loop's invariant: the array has 64 places, and the first i hold the column. Assumes nothing.
use Prim.Native.Nat.{◌+◌}
use mathlib.Core.Path.{◌≡◌}
use lib.ListN.{length}
use Rattle.bits.specs.F64.{at}
use Rattle.bits.specs.Bytes.{every}
use Rattle.bits.proofs.Fill.{Filled}
use Rattle.hermite.specs.Hermite.{difference}
use Rattle.hermite.proofs.first_column.Given as goal

abbrev pub invariant-loop-i : goal.invariant-loop-i
invariant-loop-i l = (length l.col ≡ 64) × Filled (difference (at l.z) (every 48 l.kernel l.q) (every 48 l.kernel (l.q + 24)) 1) l.i l.col
