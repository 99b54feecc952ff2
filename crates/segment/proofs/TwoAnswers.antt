-- Any two answers that the contract of a public function permits are equal. Assumes nothing.
use mathlib.Core.Path.{refl}
use seplogic.Ra.Ura.{Ura}
use base.Logic.{SProp}
use prog.Memory.{Memory}
use prog.Routine.{Routine}
use types.Logic.{Logic}
use contract.Monad.{Fun}
use Rattle.promised.specs.Promised.{Determined}
use Rattle.promised.proofs.Alike.{first_equal}
use Rattle.segment.specs.contracts.judge as m-judge
use Rattle.segment.specs.contracts.evaluate as m-evaluate

module _ {M : Type 1} {𝓤 : Ura M} (𝓛 : Logic 𝓤) (mem : Memory → SProp 𝓤) (run : Routine → Fun 𝓤) where
  pub two_judge : Determined 𝓤 m-judge.ended (m-judge.clauses 𝓛 mem run)
  two_judge κs a g r r' ws ws' = first_equal 𝓤 refl

  pub two_evaluate : Determined 𝓤 m-evaluate.ended (m-evaluate.clauses 𝓛 mem run)
  two_evaluate κs a g r r' ws ws' = first_equal 𝓤 refl
