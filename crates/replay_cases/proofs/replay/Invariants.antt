-- Each block leaves less. Assumes nothing.
use lib.ListN.{length}
use Rattle.replay_cases.proofs.replay.Given as goal

abbrev pub decreases-loop-rest : goal.decreases-loop-rest
decreases-loop-rest l = length l.rest
