-- Any two answers that the contract of a public function permits are equal. Assumes nothing.
use mathlib.Core.Path.{refl, sym, ◌∙◌}
use seplogic.Ra.Ura.{Ura}
use base.Logic.{SProp}
use prog.Memory.{Memory}
use prog.Routine.{Routine}
use types.Logic.{Logic}
use contract.Monad.{Fun}
use Rattle.promised.specs.Promised.{Determined}
use Rattle.promised.proofs.Alike.{alike, both, equal}
use Rattle.index.specs.contracts.room_in as m-room-in
use Rattle.index.specs.contracts.has_room as m-has-room
use Rattle.index.specs.contracts.clear as m-clear
use Rattle.index.specs.contracts.mirrored as m-mirrored
use Rattle.index.specs.contracts.join as m-join
use Rattle.index.specs.contracts.down as m-down
use Rattle.index.specs.contracts.up as m-up

module _ {M : Type 1} {𝓤 : Ura M} (𝓛 : Logic 𝓤) (mem : Memory → SProp 𝓤) (run : Routine → Fun 𝓤) where
  pub two_room_in : Determined 𝓤 m-room-in.ended (m-room-in.clauses 𝓛 mem run)
  two_room_in κs a g r r' ws ws' = equal 𝓤 refl

  pub two_has_room : Determined 𝓤 m-has-room.ended (m-has-room.clauses 𝓛 mem run)
  two_has_room κs a g r r' ws ws' = equal 𝓤 refl

  pub two_clear : Determined 𝓤 m-clear.ended (m-clear.clauses 𝓛 mem run)
  two_clear κs a g r r' ws ws' = alike 𝓤 (λ e e'. (refl, both (e ∙ sym e') refl))

  pub two_mirrored : Determined 𝓤 m-mirrored.ended (m-mirrored.clauses 𝓛 mem run)
  two_mirrored κs a g r r' ws ws' = equal 𝓤 refl

  pub two_join : Determined 𝓤 m-join.ended (m-join.clauses 𝓛 mem run)
  two_join κs a g r r' ws ws' = alike 𝓤 (λ e e'. (refl, both (e ∙ sym e') refl))

  -- of an iterator: the numbers that are left
  pub two_down : Determined 𝓤 m-down.ended (m-down.clauses 𝓛 mem run)
  two_down κs a g r r' ws ws' = equal 𝓤 refl

  pub two_up : Determined 𝓤 m-up.ended (m-up.clauses 𝓛 mem run)
  two_up κs a g r r' ws ws' = equal 𝓤 refl
