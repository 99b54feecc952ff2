-- The first i places are filled, and the cursor stands at the summary of place i.
use Rattle.std.proofs.Common.{◌≡◌}
use Rattle.opening.specs.Steps.{cursor_at, filled}
use Rattle.lent.proofs.fill.Given as goal

abbrev pub invariant-loop-i : goal.invariant-loop-i
invariant-loop-i l = (l.table ≡ filled l.family l.kernel l.fn.start l.fn.table l.i) × (l.c ≡ cursor_at l.kernel l.fn.start l.i)
