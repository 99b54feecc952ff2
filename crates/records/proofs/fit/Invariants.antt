-- The loop's invariant: the first i records have their mark. Assumes nothing.
use mathlib.Core.Path.{◌≡◌}
use mathlib.Core.Bool.{true}
use Rattle.records.specs.Records.{all_marked}
use Rattle.records.proofs.fit.Given as goal

abbrev pub invariant-loop-i : goal.invariant-loop-i
invariant-loop-i l = all_marked l.size l.mark l.s l.i ≡ true
