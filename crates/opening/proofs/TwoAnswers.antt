-- Any two answers that the contract of a public function permits are equal. Assumes nothing.
use mathlib.Core.Path.{refl}
use seplogic.Ra.Ura.{Ura}
use base.Logic.{SProp}
use prog.Memory.{Memory}
use prog.Routine.{Routine}
use types.Logic.{Logic}
use contract.Monad.{Fun}
use Rattle.promised.specs.Promised.{Determined}
use Rattle.promised.proofs.Alike.{equal}
use Rattle.opening.specs.contracts.plan_of as m-plan-of
use Rattle.opening.specs.contracts.count_in as m-count-in
use Rattle.opening.specs.contracts.cursor_in as m-cursor-in
use Rattle.opening.specs.contracts.found_in as m-found-in
use Rattle.opening.specs.contracts.segment_here as m-segment-here
use Rattle.opening.specs.contracts.cursor_after as m-cursor-after
use Rattle.opening.specs.contracts.marks_for as m-marks-for

module _ {M : Type 1} {𝓤 : Ura M} (𝓛 : Logic 𝓤) (mem : Memory → SProp 𝓤) (run : Routine → Fun 𝓤) where
  pub two_plan_of : Determined 𝓤 m-plan-of.ended (m-plan-of.clauses 𝓛 mem run)
  two_plan_of κs a g r r' ws ws' = equal 𝓤 refl

  pub two_count_in : Determined 𝓤 m-count-in.ended (m-count-in.clauses 𝓛 mem run)
  two_count_in κs a g r r' ws ws' = equal 𝓤 refl

  pub two_cursor_in : Determined 𝓤 m-cursor-in.ended (m-cursor-in.clauses 𝓛 mem run)
  two_cursor_in κs a g r r' ws ws' = equal 𝓤 refl

  pub two_found_in : Determined 𝓤 m-found-in.ended (m-found-in.clauses 𝓛 mem run)
  two_found_in κs a g r r' ws ws' = equal 𝓤 refl

  pub two_segment_here : Determined 𝓤 m-segment-here.ended (m-segment-here.clauses 𝓛 mem run)
  two_segment_here κs a g r r' ws ws' = equal 𝓤 refl

  pub two_cursor_after : Determined 𝓤 m-cursor-after.ended (m-cursor-after.clauses 𝓛 mem run)
  two_cursor_after κs a g r r' ws ws' = equal 𝓤 refl

  pub two_marks_for : Determined 𝓤 m-marks-for.ended (m-marks-for.clauses 𝓛 mem run)
  two_marks_for κs a g r r' ws ws' = equal 𝓤 refl
