-- `hermite::next_column` meets its contract. The loop's invariant: the places below i hold the new column, those from i on still the old one. Assumes nothing.
use mathlib.Core.Path.{◌≡◌}
use lib.ListN.{length}
use Rattle.bits.specs.F64.{at}
use Rattle.hermite.proofs.Table.{Overwritten}
use Rattle.hermite.proofs.next_column.Given as goal

abbrev pub invariant-loop-i : goal.invariant-loop-i
invariant-loop-i l = (length l.col ≡ 64) × Overwritten (at l.z) l.k l.initial.col l.i l.col
