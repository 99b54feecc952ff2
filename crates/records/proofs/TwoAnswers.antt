-- Any two answers that the contract of a public function permits are equal. Assumes nothing.
use mathlib.Core.Path.{refl}
use seplogic.Ra.Ura.{Ura}
use base.Logic.{SProp}
use prog.Memory.{Memory}
use prog.Routine.{Routine}
use types.Logic.{Logic}
use contract.Monad.{Fun}
use Rattle.promised.specs.Promised.{Determined}
use Rattle.promised.proofs.Alike.{equal}
use Rattle.records.specs.contracts.is_marked as m-is-marked
use Rattle.records.specs.contracts.fit as m-fit

module _ {M : Type 1} {𝓤 : Ura M} (𝓛 : Logic 𝓤) (mem : Memory → SProp 𝓤) (run : Routine → Fun 𝓤) where
  pub two_is_marked : Determined 𝓤 m-is-marked.ended (m-is-marked.clauses 𝓛 mem run)
  two_is_marked κs a g r r' ws ws' = equal 𝓤 refl

  pub two_fit : Determined 𝓤 m-fit.ended (m-fit.clauses 𝓛 mem run)
  two_fit κs a g r r' ws ws' = equal 𝓤 refl
