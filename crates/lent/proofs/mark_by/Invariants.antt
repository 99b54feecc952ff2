-- The first i segments are marked.
use Rattle.std.proofs.Common.{◌≡◌}
use Rattle.table.specs.Marks.{marked_to}
use Rattle.lent.proofs.mark_by.Given as goal

abbrev pub invariant-loop-i : goal.invariant-loop-i
invariant-loop-i g l = l.table ≡ marked_to l.fn.table l.n l.i
