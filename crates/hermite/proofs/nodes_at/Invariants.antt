-- `hermite::nodes_at` meets its contract. The loop's invariant: the array has 64 places, and the first 2i hold the doubled epochs. Assumes nothing.
use Prim.Native.Nat.{◌*◌}
use mathlib.Core.Path.{◌≡◌}
use lib.ListN.{length}
use Rattle.bits.specs.Bytes.{every}
use Rattle.bits.proofs.Fill.{Filled}
use Rattle.hermite.specs.Hermite.{doubled}
use Rattle.hermite.proofs.nodes_at.Given as goal

abbrev pub invariant-loop-i : goal.invariant-loop-i
invariant-loop-i l = (length l.z ≡ 64) × Filled (doubled (every 8 l.kernel l.e)) (2 * l.i) l.z
