-- Any two answers that the contract of a public function permits are equal. Assumes nothing.
use mathlib.Core.Path.{}
use seplogic.Ra.Ura.{Ura}
use base.Logic.{SProp}
use prog.Memory.{Memory}
use prog.Routine.{Routine}
use types.Logic.{Logic}
use contract.Monad.{Fun}
use Rattle.promised.specs.Promised.{Determined}
use Rattle.promised.proofs.Alike.{first_alike}
use Rattle.lines.proofs.Texts.{two_buffers}
use Rattle.statement_text.specs.contracts.put_statement as m-put-statement
use Rattle.statement_text.specs.contracts.put_output as m-put-output

module _ {M : Type 1} {𝓤 : Ura M} (𝓛 : Logic 𝓤) (mem : Memory → SProp 𝓤) (run : Routine → Fun 𝓤) where
  pub two_put_statement : Determined 𝓤 m-put-statement.ended (m-put-statement.clauses 𝓛 mem run)
  two_put_statement κs a g r r' ws ws' = first_alike 𝓤 (two_buffers ws.1)

  pub two_put_output : Determined 𝓤 m-put-output.ended (m-put-output.clauses 𝓛 mem run)
  two_put_output κs a g r r' ws ws' = first_alike 𝓤 (two_buffers ws.1)
