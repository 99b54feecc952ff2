-- A plan for the table's places fills no more than these. Assumes nothing.
use mathlib.Core.Path.{sym, subst}
use Rattle.daf.specs.declared.Family.TheVariants.{Pck}
use Rattle.opening.specs.Steps.{Plan, Fits}
use Rattle.opening.proofs.Planned.{plan_ready}
use Rattle.replay_measure.proofs.lend_pck.Goals as goal

pub carry_out-requires : goal.carry_out-requires
carry_out-requires c =
    subst (λ (y : Plan). Fits 4096 c.args.kernel.now y) (sym c.planned-y.ensures) (plan_ready Pck 4096 c.args.kernel.now)
