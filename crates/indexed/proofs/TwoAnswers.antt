-- Any two answers that the contract of a public function permits are equal. Assumes nothing.
use mathlib.Core.Path.{refl, sym, ◌∙◌}
use seplogic.Ra.Ura.{Ura}
use base.Logic.{SProp}
use prog.Memory.{Memory}
use prog.Routine.{Routine}
use types.Logic.{Logic}
use contract.Monad.{Fun}
use Rattle.promised.specs.Promised.{Determined}
use Rattle.promised.proofs.Alike.{alike, both, first_alike, first_equal}
use Rattle.indexed.specs.contracts.state as m-state
use Rattle.indexed.specs.contracts.state_in as m-state-in
use Rattle.indexed.specs.contracts.orient as m-orient
use Rattle.indexed.specs.contracts.carry_out as m-carry-out
use Rattle.indexed.specs.contracts.open as m-open

module _ {M : Type 1} {𝓤 : Ura M} (𝓛 : Logic 𝓤) (mem : Memory → SProp 𝓤) (run : Routine → Fun 𝓤) where
  pub two_state : Determined 𝓤 m-state.ended (m-state.clauses 𝓛 mem run)
  two_state κs a g r r' ws ws' = first_equal 𝓤 refl

  pub two_state_in : Determined 𝓤 m-state-in.ended (m-state-in.clauses 𝓛 mem run)
  two_state_in κs a g r r' ws ws' = first_equal 𝓤 refl

  pub two_orient : Determined 𝓤 m-orient.ended (m-orient.clauses 𝓛 mem run)
  two_orient κs a g r r' ws ws' = first_equal 𝓤 refl

  pub two_carry_out : Determined 𝓤 m-carry-out.ended (m-carry-out.clauses 𝓛 mem run)
  two_carry_out κs a g r r' ws ws' = alike 𝓤 (λ e e'. (refl, both (e.0 ∙ sym e'.0) (both (e.1 ∙ sym e'.1) refl)))

  pub two_open : Determined 𝓤 m-open.ended (m-open.clauses 𝓛 mem run)
  two_open κs a g r r' ws ws' = first_alike 𝓤 (λ e e'. (e.0 ∙ sym e'.0, both (e.1.0 ∙ sym e'.1.0) (both (e.1.1 ∙ sym e'.1.1) refl)))
