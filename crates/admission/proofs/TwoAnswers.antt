-- Any two answers that the contract of a public function permits are equal. Assumes nothing.
use mathlib.Core.Path.{refl}
use seplogic.Ra.Ura.{Ura}
use base.Logic.{SProp}
use prog.Memory.{Memory}
use prog.Routine.{Routine}
use types.Logic.{Logic}
use contract.Monad.{Fun}
use Rattle.promised.specs.Promised.{Determined}
use Rattle.promised.proofs.Alike.{equal}
use Rattle.admission.specs.contracts.over as m-over
use Rattle.admission.specs.contracts.any_over as m-any-over
use Rattle.admission.specs.contracts.plan as m-plan
use Rattle.admission.specs.contracts.open as m-open
use Rattle.admission.specs.contracts.matrix_for as m-matrix-for

module _ {M : Type 1} {𝓤 : Ura M} (𝓛 : Logic 𝓤) (mem : Memory → SProp 𝓤) (run : Routine → Fun 𝓤) where
  pub two_over : Determined 𝓤 m-over.ended (m-over.clauses 𝓛 mem run)
  two_over κs a g r r' ws ws' = equal 𝓤 refl

  pub two_any_over : Determined 𝓤 m-any-over.ended (m-any-over.clauses 𝓛 mem run)
  two_any_over κs a g r r' ws ws' = equal 𝓤 refl

  pub two_plan : Determined 𝓤 m-plan.ended (m-plan.clauses 𝓛 mem run)
  two_plan κs a g r r' ws ws' = equal 𝓤 refl

  pub two_open : Determined 𝓤 m-open.ended (m-open.clauses 𝓛 mem run)
  two_open κs a g r r' ws ws' = equal 𝓤 refl

  pub two_matrix_for : Determined 𝓤 m-matrix-for.ended (m-matrix-for.clauses 𝓛 mem run)
  two_matrix_for κs a g r r' ws ws' = equal 𝓤 refl
