-- Any two answers that the contract of a public function permits are equal. Assumes nothing.
use mathlib.Core.Path.{refl, sym, ap, ◌∙◌}
use seplogic.Ra.Ura.{Ura}
use base.Logic.{SProp}
use prog.Memory.{Memory}
use prog.Routine.{Routine}
use types.Logic.{Logic}
use contract.Monad.{Fun}
use Rattle.promised.specs.Promised.{Determined}
use Rattle.promised.proofs.Alike.{alike, equal}
use Rattle.frame.specs.declared.State.{State}
use Rattle.frame.specs.State.{zero_state}
use Rattle.std.proofs.Common.{Option, Some, None}
use Rattle.cheby.specs.contracts.record_at as m-record-at
use Rattle.cheby.specs.contracts.record_of_few as m-record-of-few
use Rattle.cheby.specs.contracts.no_radius as m-no-radius
use Rattle.cheby.specs.contracts.state2_at as m-state2-at
use Rattle.cheby.specs.contracts.type2_at as m-type2-at
use Rattle.cheby.specs.contracts.type3_at as m-type3-at
use Rattle.cheby.specs.contracts.state3_at as m-state3-at

-- the state of a value
abbrev inside : Option State → State
inside (Some s) = s
inside None = zero_state

module _ {M : Type 1} {𝓤 : Ura M} (𝓛 : Logic 𝓤) (mem : Memory → SProp 𝓤) (run : Routine → Fun 𝓤) where
  pub two_record_at : Determined 𝓤 m-record-at.ended (m-record-at.clauses 𝓛 mem run)
  two_record_at κs a g r r' ws ws' = equal 𝓤 refl

  pub two_record_of_few : Determined 𝓤 m-record-of-few.ended (m-record-of-few.clauses 𝓛 mem run)
  two_record_of_few κs a g r r' ws ws' = equal 𝓤 refl

  pub two_no_radius : Determined 𝓤 m-no-radius.ended (m-no-radius.clauses 𝓛 mem run)
  two_no_radius κs a g r r' ws ws' = equal 𝓤 refl

  pub two_state2_at : Determined 𝓤 m-state2-at.ended (m-state2-at.clauses 𝓛 mem run)
  two_state2_at κs a g r r' ws ws' = alike 𝓤 (λ e e'. (ap inside (e ∙ sym e'), refl))

  pub two_type2_at : Determined 𝓤 m-type2-at.ended (m-type2-at.clauses 𝓛 mem run)
  two_type2_at κs a g r r' ws ws' = equal 𝓤 refl

  pub two_type3_at : Determined 𝓤 m-type3-at.ended (m-type3-at.clauses 𝓛 mem run)
  two_type3_at κs a g r r' ws ws' = equal 𝓤 refl

  pub two_state3_at : Determined 𝓤 m-state3-at.ended (m-state3-at.clauses 𝓛 mem run)
  two_state3_at κs a g r r' ws ws' = equal 𝓤 refl
