-- `opening::plan_from` meets its contract: where the loop stands is `Judging`. Assumes nothing.
use Rattle.opening.proofs.Planning.{Judging}
use Rattle.opening.proofs.plan_from.Given as goal

abbrev pub invariant-loop-i : goal.invariant-loop-i
invariant-loop-i l = Judging l.family l.kernel l.n l.i l.c
