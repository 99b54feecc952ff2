-- Any two answers that the contract of a public function permits are equal. Assumes nothing.
use mathlib.Core.Path.{◌≡◌, refl, sym, ◌∙◌}
use Prim.Native.Nat.{ℕ}
use seplogic.Ra.Ura.{Ura}
use mir.Syntax.{Dict}
use base.Logic.{SProp}
use prog.Memory.{Memory}
use prog.Routine.{Routine}
use types.Logic.{Logic}
use contract.Monad.{Fun}
use denote.RattleType.{RattleType}
use Rattle.std.specs.Prelude.{Option}
use Rattle.std.specs.Fn.{Once}
use Rattle.promised.specs.Promised.{Determined, DeterminedWhere}
use Rattle.promised.proofs.Alike.{alike, equal}
use Rattle.pck.specs.contracts.Question.hits as m-question-hits
use Rattle.pck.specs.contracts.early as m-early
use Rattle.pck.specs.contracts.answered_by as m-answered-by
use Rattle.pck.specs.contracts.uncovered as m-uncovered
use Rattle.pck.specs.contracts.alone_by as m-alone-by
use Rattle.pck.specs.contracts.orient as m-orient

module _ {M : Type 1} {𝓤 : Ura M} (𝓛 : Logic 𝓤) (mem : Memory → SProp 𝓤) (run : Routine → Fun 𝓤) where
  pub two_question_hits : Determined 𝓤 m-question-hits.ended (m-question-hits.clauses 𝓛 mem run)
  two_question_hits κs a g r r' ws ws' = equal 𝓤 refl

  pub two_early : Determined 𝓤 m-early.ended (m-early.clauses 𝓛 mem run)
  two_early κs a g r r' ws ws' = equal 𝓤 refl

  pub two_answered_by : Determined 𝓤 m-answered-by.ended (m-answered-by.clauses 𝓛 mem run)
  two_answered_by κs a g r r' ws ws' = equal 𝓤 refl

  pub two_uncovered : Determined 𝓤 m-uncovered.ended (m-uncovered.clauses 𝓛 mem run)
  two_uncovered κs a g r r' ws ws' = equal 𝓤 refl

  pub two_alone_by : Determined 𝓤 m-alone-by.ended (m-alone-by.clauses 𝓛 mem run)
  two_alone_by κs a g r r' ws ws' = equal 𝓤 refl

  -- where the closure computes some choice
  pub two_orient : (L : RattleType) (last : Once L.Denot (Unit {0}) (Option ℕ)) (d₁ d₂ : Dict)
      → DeterminedWhere 𝓤 (m-orient.ended L last d₁ d₂) (λ κs a. (c : Option ℕ) × ((r : Option ℕ) → last.post a.1.1.1.1.0 tt r → r ≡ c)) (m-orient.clauses L last d₁ d₂ 𝓛 mem run)
  two_orient L last d₁ d₂ κs a w g r r' ws ws' = alike 𝓤 (λ h h'. (h w.0 w.1 ∙ sym (h' w.0 w.1), refl))
