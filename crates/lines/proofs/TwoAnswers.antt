-- Any two answers that the contract of a public function permits are equal. Assumes nothing.
use mathlib.Core.Path.{refl}
use seplogic.Ra.Ura.{Ura}
use base.Logic.{SProp}
use prog.Memory.{Memory}
use prog.Routine.{Routine}
use types.Logic.{Logic}
use contract.Monad.{Fun}
use Rattle.promised.specs.Promised.{Determined}
use Rattle.promised.proofs.Alike.{alike, equal, first_alike}
use Rattle.lines.proofs.Texts.{two_pages}
use Rattle.lines.specs.contracts.bits_of as m-bits-of
use Rattle.lines.specs.contracts.room as m-room
use Rattle.lines.specs.contracts.Page.put as m-put
use Rattle.lines.specs.contracts.Page.put_decimal as m-put-decimal
use Rattle.lines.specs.contracts.Page.put_signed as m-put-signed
use Rattle.lines.specs.contracts.Page.put_field as m-put-field
use Rattle.lines.specs.contracts.Page.put_number as m-put-number
use Rattle.lines.specs.contracts.Page.put_state as m-put-state
use Rattle.lines.specs.contracts.Page.put_tail as m-put-tail
use Rattle.lines.specs.contracts.Page.put_refusal as m-put-refusal
use Rattle.lines.specs.contracts.Page.put_numbered_refusal as m-put-numbered-refusal
use Rattle.lines.specs.contracts.Page.put_yes as m-put-yes

module _ {M : Type 1} {𝓤 : Ura M} (𝓛 : Logic 𝓤) (mem : Memory → SProp 𝓤) (run : Routine → Fun 𝓤) where
  pub two_bits_of : Determined 𝓤 m-bits-of.ended (m-bits-of.clauses 𝓛 mem run)
  two_bits_of κs a g r r' ws ws' = equal 𝓤 refl

  pub two_room : Determined 𝓤 m-room.ended (m-room.clauses 𝓛 mem run)
  two_room κs a g r r' ws ws' = equal 𝓤 refl

  pub two_put : Determined 𝓤 m-put.ended (m-put.clauses 𝓛 mem run)
  two_put κs a g r r' ws ws' = alike 𝓤 (two_pages ws.1)

  pub two_put_decimal : Determined 𝓤 m-put-decimal.ended (m-put-decimal.clauses 𝓛 mem run)
  two_put_decimal κs a g r r' ws ws' = first_alike 𝓤 (two_pages ws.1)

  pub two_put_signed : Determined 𝓤 m-put-signed.ended (m-put-signed.clauses 𝓛 mem run)
  two_put_signed κs a g r r' ws ws' = first_alike 𝓤 (two_pages ws.1)

  pub two_put_field : Determined 𝓤 m-put-field.ended (m-put-field.clauses 𝓛 mem run)
  two_put_field κs a g r r' ws ws' = first_alike 𝓤 (two_pages ws.1)

  pub two_put_number : Determined 𝓤 m-put-number.ended (m-put-number.clauses 𝓛 mem run)
  two_put_number κs a g r r' ws ws' = first_alike 𝓤 (two_pages ws.1)

  pub two_put_state : Determined 𝓤 m-put-state.ended (m-put-state.clauses 𝓛 mem run)
  two_put_state κs a g r r' ws ws' = first_alike 𝓤 (two_pages ws.1)

  pub two_put_tail : Determined 𝓤 m-put-tail.ended (m-put-tail.clauses 𝓛 mem run)
  two_put_tail κs a g r r' ws ws' = first_alike 𝓤 (two_pages ws.1)

  pub two_put_refusal : Determined 𝓤 m-put-refusal.ended (m-put-refusal.clauses 𝓛 mem run)
  two_put_refusal κs a g r r' ws ws' = first_alike 𝓤 (two_pages ws.1)

  pub two_put_numbered_refusal : Determined 𝓤 m-put-numbered-refusal.ended (m-put-numbered-refusal.clauses 𝓛 mem run)
  two_put_numbered_refusal κs a g r r' ws ws' = first_alike 𝓤 (two_pages ws.1)

  pub two_put_yes : Determined 𝓤 m-put-yes.ended (m-put-yes.clauses 𝓛 mem run)
  two_put_yes κs a g r r' ws ws' = first_alike 𝓤 (two_pages ws.1)
