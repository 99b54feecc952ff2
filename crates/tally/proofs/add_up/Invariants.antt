-- `tally::add_up` meets its contract. The loop's invariant: the first i records have no fault and are tallied. Assumes nothing.
use mathlib.Core.Path.{◌≡◌}
use Rattle.tally.specs.Statement.{statement_of}
use Rattle.tally.specs.Steps.{Tallied}
use Rattle.tally.proofs.Ways.{stands}
use Rattle.tally.proofs.add_up.Given as goal

abbrev pub invariant-loop-i : goal.invariant-loop-i
invariant-loop-i l = Tallied l.file l.i l.lines l.known × (statement_of l.file ≡ stands l.file l.i)
