-- The next question is one of the file. Assumes nothing.
use Prim.Native.Nat.{◌<◌}
use Rattle.replay_measure.proofs.ask.Given as goal

abbrev pub invariant-loop : goal.invariant-loop
invariant-loop l = l.at < l.n
