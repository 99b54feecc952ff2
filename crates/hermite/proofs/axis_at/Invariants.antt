-- `hermite::axis_at` meets its contract. The loop's invariant: the Newton form has order 2 j - 1, and `col` holds the column of that order. Assumes nothing.
use Prim.Native.Nat.{◌+◌, ◌*◌, ◌-◌}
use mathlib.Core.Path.{◌≡◌}
use lib.ListN.{length}
use Rattle.bits.specs.F64.{at}
use Rattle.bits.specs.Bytes.{every}
use Rattle.hermite.proofs.Table.{After}
use Rattle.hermite.proofs.axis_at.Given as goal

abbrev pub invariant-loop-j : goal.invariant-loop-j
invariant-loop-j l = (length l.col ≡ 64) × After (at l.z) (every 48 l.kernel l.q) (every 48 l.kernel (l.q + 24)) l.x l.m (2 * l.j - 1) l.s l.col
