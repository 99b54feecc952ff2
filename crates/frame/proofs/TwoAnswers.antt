-- Any two answers that the contract of a public function permits are equal. Assumes nothing.
use mathlib.Core.Path.{refl}
use seplogic.Ra.Ura.{Ura}
use base.Logic.{SProp}
use prog.Memory.{Memory}
use prog.Routine.{Routine}
use types.Logic.{Logic}
use contract.Monad.{Fun}
use Rattle.promised.specs.Promised.{Determined}
use Rattle.promised.proofs.Alike.{equal}
use Rattle.frame.specs.contracts.State.zero as m-state-zero
use Rattle.frame.specs.contracts.State.negated as m-state-negated
use Rattle.frame.specs.contracts.State.plus as m-state-plus
use Rattle.frame.specs.contracts.State.minus as m-state-minus
use Rattle.frame.specs.contracts.State.is_finite as m-state-is-finite
use Rattle.frame.specs.contracts.rotate_state_inertial as m-rotate-state-inertial
use Rattle.frame.specs.contracts.transpose as m-transpose
use Rattle.frame.specs.contracts.Framed.joined as m-framed-joined
use Rattle.frame.specs.contracts.Framed.turn as m-framed-turn
use Rattle.frame.specs.contracts.Given.nothing as m-given-nothing
use Rattle.frame.specs.contracts.Given.of as m-given-of
use Rattle.frame.specs.contracts.Given.negated as m-given-negated
use Rattle.frame.specs.contracts.Given.plus as m-given-plus
use Rattle.frame.specs.contracts.Given.minus as m-given-minus
use Rattle.frame.specs.contracts.Given.turned as m-given-turned

module _ {M : Type 1} {𝓤 : Ura M} (𝓛 : Logic 𝓤) (mem : Memory → SProp 𝓤) (run : Routine → Fun 𝓤) where
  pub two_state_zero : Determined 𝓤 m-state-zero.ended (m-state-zero.clauses 𝓛 mem run)
  two_state_zero κs a g r r' ws ws' = equal 𝓤 refl

  pub two_state_negated : Determined 𝓤 m-state-negated.ended (m-state-negated.clauses 𝓛 mem run)
  two_state_negated κs a g r r' ws ws' = equal 𝓤 refl

  pub two_state_plus : Determined 𝓤 m-state-plus.ended (m-state-plus.clauses 𝓛 mem run)
  two_state_plus κs a g r r' ws ws' = equal 𝓤 refl

  pub two_state_minus : Determined 𝓤 m-state-minus.ended (m-state-minus.clauses 𝓛 mem run)
  two_state_minus κs a g r r' ws ws' = equal 𝓤 refl

  pub two_state_is_finite : Determined 𝓤 m-state-is-finite.ended (m-state-is-finite.clauses 𝓛 mem run)
  two_state_is_finite κs a g r r' ws ws' = equal 𝓤 refl

  pub two_rotate_state_inertial : Determined 𝓤 m-rotate-state-inertial.ended (m-rotate-state-inertial.clauses 𝓛 mem run)
  two_rotate_state_inertial κs a g r r' ws ws' = equal 𝓤 refl

  pub two_transpose : Determined 𝓤 m-transpose.ended (m-transpose.clauses 𝓛 mem run)
  two_transpose κs a g r r' ws ws' = equal 𝓤 refl

  pub two_framed_joined : Determined 𝓤 m-framed-joined.ended (m-framed-joined.clauses 𝓛 mem run)
  two_framed_joined κs a g r r' ws ws' = equal 𝓤 refl

  pub two_framed_turn : Determined 𝓤 m-framed-turn.ended (m-framed-turn.clauses 𝓛 mem run)
  two_framed_turn κs a g r r' ws ws' = equal 𝓤 refl

  pub two_given_nothing : Determined 𝓤 m-given-nothing.ended (m-given-nothing.clauses 𝓛 mem run)
  two_given_nothing κs a g r r' ws ws' = equal 𝓤 refl

  pub two_given_of : Determined 𝓤 m-given-of.ended (m-given-of.clauses 𝓛 mem run)
  two_given_of κs a g r r' ws ws' = equal 𝓤 refl

  pub two_given_negated : Determined 𝓤 m-given-negated.ended (m-given-negated.clauses 𝓛 mem run)
  two_given_negated κs a g r r' ws ws' = equal 𝓤 refl

  pub two_given_plus : Determined 𝓤 m-given-plus.ended (m-given-plus.clauses 𝓛 mem run)
  two_given_plus κs a g r r' ws ws' = equal 𝓤 refl

  pub two_given_minus : Determined 𝓤 m-given-minus.ended (m-given-minus.clauses 𝓛 mem run)
  two_given_minus κs a g r r' ws ws' = equal 𝓤 refl

  pub two_given_turned : Determined 𝓤 m-given-turned.ended (m-given-turned.clauses 𝓛 mem run)
  two_given_turned κs a g r r' ws ws' = equal 𝓤 refl
