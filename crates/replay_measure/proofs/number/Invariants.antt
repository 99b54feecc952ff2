-- Of nine digits at most. Assumes nothing.
use Prim.Native.Nat.{◌<◌}
use Rattle.replay_measure.proofs.number.Given as goal

abbrev pub invariant-loop-b : goal.invariant-loop-b
invariant-loop-b l = l.n < 1000000000
