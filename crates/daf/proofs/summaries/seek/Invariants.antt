-- `daf::seek` meets its contract: the loop goes as `seek_of` recurses. Assumes nothing.
use mathlib.Core.Path.{◌≡◌}
use Rattle.daf.specs.Steps.{Sound, seek_of}
use Rattle.daf.proofs.summaries.seek.Given as goal

abbrev pub invariant-loop-left : goal.invariant-loop-left
invariant-loop-left l = Sound l.kernel l.r l.left × (seek_of l.kernel l.first l.records ≡ seek_of l.kernel l.r l.left)
