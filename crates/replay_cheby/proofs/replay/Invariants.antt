-- Each block leaves less. Assumes nothing.
use lib.ListN.{length}
use Rattle.replay_cheby.proofs.replay.Given as goal

abbrev pub decreases-loop-head : goal.decreases-loop-head
decreases-loop-head l = length l.rest
