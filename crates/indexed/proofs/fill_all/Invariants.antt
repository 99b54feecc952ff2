-- The first i segments, and the last i, have joined the emptied index.
use Rattle.std.proofs.Common.{◌≡◌}
use Rattle.index.specs.Parts.{quarter, emptied, joined}
use Rattle.indexed.proofs.fill_all.Given as goal

abbrev pub invariant-loop-i : goal.invariant-loop-i
invariant-loop-i l = l.ix ≡ joined l.table l.n l.i (emptied (quarter l.fn.ix) l.fn.ix)
