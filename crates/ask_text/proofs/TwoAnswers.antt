-- Any two answers that the contract of a public function permits are equal. Assumes nothing.
use mathlib.Core.Path.{refl}
use seplogic.Ra.Ura.{Ura}
use base.Logic.{SProp}
use prog.Memory.{Memory}
use prog.Routine.{Routine}
use types.Logic.{Logic}
use contract.Monad.{Fun}
use Rattle.promised.specs.Promised.{Determined}
use Rattle.promised.proofs.Alike.{equal, first_alike}
use Rattle.lines.proofs.Texts.{two_buffers, two_pages}
use Rattle.ask_text.specs.contracts.question_at as m-question-at
use Rattle.ask_text.specs.contracts.rows as m-rows
use Rattle.ask_text.specs.contracts.plan as m-plan
use Rattle.ask_text.specs.contracts.open as m-open
use Rattle.ask_text.specs.contracts.put_answer as m-put-answer
use Rattle.ask_text.specs.contracts.room as m-room
use Rattle.ask_text.specs.contracts.put_text as m-put-text
use Rattle.ask_text.specs.contracts.frame_named as m-frame-named
use Rattle.ask_text.specs.contracts.put_output as m-put-output

module _ {M : Type 1} {𝓤 : Ura M} (𝓛 : Logic 𝓤) (mem : Memory → SProp 𝓤) (run : Routine → Fun 𝓤) where
  pub two_question_at : Determined 𝓤 m-question-at.ended (m-question-at.clauses 𝓛 mem run)
  two_question_at κs a g r r' ws ws' = equal 𝓤 refl

  pub two_rows : Determined 𝓤 m-rows.ended (m-rows.clauses 𝓛 mem run)
  two_rows κs a g r r' ws ws' = equal 𝓤 refl

  pub two_plan : Determined 𝓤 m-plan.ended (m-plan.clauses 𝓛 mem run)
  two_plan κs a g r r' ws ws' = equal 𝓤 refl

  pub two_open : Determined 𝓤 m-open.ended (m-open.clauses 𝓛 mem run)
  two_open κs a g r r' ws ws' = equal 𝓤 refl

  pub two_put_answer : Determined 𝓤 m-put-answer.ended (m-put-answer.clauses 𝓛 mem run)
  two_put_answer κs a g r r' ws ws' = first_alike 𝓤 (two_pages ws.1)

  pub two_room : Determined 𝓤 m-room.ended (m-room.clauses 𝓛 mem run)
  two_room κs a g r r' ws ws' = equal 𝓤 refl

  pub two_put_text : Determined 𝓤 m-put-text.ended (m-put-text.clauses 𝓛 mem run)
  two_put_text κs a g r r' ws ws' = first_alike 𝓤 (two_buffers ws.1)

  pub two_frame_named : Determined 𝓤 m-frame-named.ended (m-frame-named.clauses 𝓛 mem run)
  two_frame_named κs a g r r' ws ws' = equal 𝓤 refl

  pub two_put_output : Determined 𝓤 m-put-output.ended (m-put-output.clauses 𝓛 mem run)
  two_put_output κs a g r r' ws ws' = first_alike 𝓤 (two_buffers ws.1)
