-- A plan for so many places fills no more than these, the second time too. Assumes nothing.
use mathlib.Core.Path.{sym, subst}
use Prim.Native.Nat.{ℕ}
use Rattle.opening.specs.Steps.{Plan, Fits}
use Rattle.opening.proofs.Planned.{plan_ready}
use Rattle.replay_places.proofs.lend_4097.Goals as goal

pub carry_out-requires : goal.carry_out-requires
carry_out-requires c = subst (λ (y : Plan). Fits 4097 c.args.first.now y) (sym c.plan_of-p.ensures) (plan_ready c.family-f.result 4097 c.args.first.now)

pub carry_out-requires-2 : goal.carry_out-requires-2
carry_out-requires-2 c =
    subst (λ (j : ℕ). Fits j c.args.second.now c.plan_of-q.result) (sym c.carry_out.auto.table)
    (subst (λ (y : Plan). Fits 4097 c.args.second.now y) (sym c.plan_of-q.ensures) (plan_ready c.family-f.result 4097 c.args.second.now))
