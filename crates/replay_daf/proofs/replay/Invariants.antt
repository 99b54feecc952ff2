-- Each block leaves less. Assumes nothing.
use lib.ListN.{length}
use Rattle.replay_daf.proofs.replay.Given as goal

abbrev pub decreases-loop-len : goal.decreases-loop-len
decreases-loop-len l = length l.rest
