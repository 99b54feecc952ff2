-- Any two answers that the contract of a public function permits are equal. Assumes nothing.
use mathlib.Core.Path.{refl}
use mathlib.Core.List.{List}
use Prim.Native.Nat.{ℕ}
use seplogic.Ra.Ura.{Ura}
use base.Logic.{SProp}
use prog.Memory.{Memory}
use prog.Routine.{Routine}
use types.Logic.{Logic}
use contract.Monad.{Fun}
use Rattle.promised.specs.Promised.{Determined, DeterminedAs}
use Rattle.promised.proofs.Alike.{equal, first_equal}
use Rattle.owned.specs.contracts.open_by as m-open-by
use Rattle.owned.specs.contracts.open as m-open
use Rattle.owned.specs.contracts.state as m-state
use Rattle.owned.specs.contracts.state_in as m-state-in
use Rattle.owned.specs.contracts.alone as m-alone
use Rattle.owned.specs.contracts.orient as m-orient
use Rattle.owned.specs.contracts.name as m-name
use Rattle.owned.specs.contracts.open_spk as m-open-spk
use Rattle.owned.specs.contracts.orient_alone as m-orient-alone

module _ {M : Type 1} {𝓤 : Ura M} (𝓛 : Logic 𝓤) (mem : Memory → SProp 𝓤) (run : Routine → Fun 𝓤) where
  pub two_open_by : Determined 𝓤 m-open-by.ended (m-open-by.clauses 𝓛 mem run)
  two_open_by κs a g r r' ws ws' = equal 𝓤 refl

  pub two_open : Determined 𝓤 m-open.ended (m-open.clauses 𝓛 mem run)
  two_open κs a g r r' ws ws' = first_equal 𝓤 refl

  pub two_state : Determined 𝓤 m-state.ended (m-state.clauses 𝓛 mem run)
  two_state κs a g r r' ws ws' = first_equal 𝓤 refl

  pub two_state_in : Determined 𝓤 m-state-in.ended (m-state-in.clauses 𝓛 mem run)
  two_state_in κs a g r r' ws ws' = first_equal 𝓤 refl

  pub two_alone : Determined 𝓤 m-alone.ended (m-alone.clauses 𝓛 mem run)
  two_alone κs a g r r' ws ws' = first_equal 𝓤 refl

  pub two_orient : Determined 𝓤 m-orient.ended (m-orient.clauses 𝓛 mem run)
  two_orient κs a g r r' ws ws' = first_equal 𝓤 refl

  pub two_name : DeterminedAs 𝓤 m-name.ended (λ κs. List ℕ) (λ κs r. r.now) (m-name.clauses 𝓛 mem run)
  two_name κs a g r r' ws ws' = equal 𝓤 refl

  pub two_open_spk : Determined 𝓤 m-open-spk.ended (m-open-spk.clauses 𝓛 mem run)
  two_open_spk κs a g r r' ws ws' = first_equal 𝓤 refl

  pub two_orient_alone : Determined 𝓤 m-orient-alone.ended (m-orient-alone.clauses 𝓛 mem run)
  two_orient_alone κs a g r r' ws ws' = first_equal 𝓤 refl
