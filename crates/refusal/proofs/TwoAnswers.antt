-- Any two answers that the contract of a public function permits are equal. Assumes nothing.
use mathlib.Core.Path.{refl}
use seplogic.Ra.Ura.{Ura}
use base.Logic.{SProp}
use prog.Memory.{Memory}
use prog.Routine.{Routine}
use types.Logic.{Logic}
use contract.Monad.{Fun}
use Rattle.promised.specs.Promised.{Determined}
use Rattle.promised.proofs.Alike.{equal}
use Rattle.refusal.specs.contracts.Refusal.number as m-refusal-number
use Rattle.refusal.specs.contracts.Refusal.detail as m-refusal-detail

module _ {M : Type 1} {𝓤 : Ura M} (𝓛 : Logic 𝓤) (mem : Memory → SProp 𝓤) (run : Routine → Fun 𝓤) where
  pub two_refusal_number : Determined 𝓤 m-refusal-number.ended (m-refusal-number.clauses 𝓛 mem run)
  two_refusal_number κs a g r r' ws ws' = equal 𝓤 refl

  pub two_refusal_detail : Determined 𝓤 m-refusal-detail.ended (m-refusal-detail.clauses 𝓛 mem run)
  two_refusal_detail κs a g r r' ws ws' = equal 𝓤 refl
