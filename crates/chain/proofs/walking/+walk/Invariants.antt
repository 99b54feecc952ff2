-- A walk takes at most `left` steps.
use Rattle.chain.proofs.walking.+walk.Given as goal

abbrev pub decreases-walk : goal.decreases-walk
decreases-walk g l = l.left
