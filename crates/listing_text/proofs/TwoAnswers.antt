-- Any two answers that the contract of a public function permits are equal. Assumes nothing.
use mathlib.Core.Path.{refl}
use seplogic.Ra.Ura.{Ura}
use base.Logic.{SProp}
use prog.Memory.{Memory}
use prog.Routine.{Routine}
use types.Logic.{Logic}
use contract.Monad.{Fun}
use Rattle.promised.specs.Promised.{Determined}
use Rattle.promised.proofs.Alike.{equal, first_alike}
use Rattle.lines.proofs.Texts.{two_buffers}
use Rattle.listing_text.specs.contracts.room as m-room
use Rattle.listing_text.specs.contracts.put_text as m-put-text
use Rattle.listing_text.specs.contracts.put_output as m-put-output

module _ {M : Type 1} {𝓤 : Ura M} (𝓛 : Logic 𝓤) (mem : Memory → SProp 𝓤) (run : Routine → Fun 𝓤) where
  pub two_room : Determined 𝓤 m-room.ended (m-room.clauses 𝓛 mem run)
  two_room κs a g r r' ws ws' = equal 𝓤 refl

  pub two_put_text : Determined 𝓤 m-put-text.ended (m-put-text.clauses 𝓛 mem run)
  two_put_text κs a g r r' ws ws' = first_alike 𝓤 (two_buffers ws.1)

  pub two_put_output : Determined 𝓤 m-put-output.ended (m-put-output.clauses 𝓛 mem run)
  two_put_output κs a g r r' ws ws' = first_alike 𝓤 (two_buffers ws.1)
