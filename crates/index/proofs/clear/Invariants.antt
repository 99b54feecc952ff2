-- `index::clear` meets its contract: after i turns the first i buckets of both halves are empty. Assumes nothing.
use mathlib.Core.Path.{◌≡◌}
use lib.ListN.{length}
use Rattle.index.specs.Parts.{quarter, emptied}
use Rattle.index.proofs.clear.Given as goal

abbrev pub invariant-loop-i : goal.invariant-loop-i
invariant-loop-i l = (length l.ix ≡ length l.initial.ix) × (l.m ≡ quarter l.initial.ix) × (l.ix ≡ emptied l.i l.initial.ix)
