-- Any two answers that the contract of a public function permits are equal. Assumes nothing.
use mathlib.Core.Path.{◌≡◌, refl, sym, ◌∙◌}
use Prim.Native.Nat.{ℕ}
use seplogic.Ra.Ura.{Ura}
use mir.Syntax.{Dict}
use base.Logic.{SProp}
use prog.Memory.{Memory}
use prog.Routine.{Routine}
use types.Logic.{Logic}
use contract.Monad.{Fun}
use denote.RattleType.{RattleType}
use denote.Ref.{Bor}
use Rattle.std.specs.Prelude.{Option, Result}
use Rattle.std.specs.Fn.{Shared, FnReturnsAt}
use Rattle.promised.specs.Promised.{Determined, DeterminedWhere}
use Rattle.promised.proofs.Alike.{alike, equal}
use Rattle.frame.specs.declared.Given.{Given}
use Rattle.refusal.specs.declared.Refusal.{Refusal}
use Rattle.spk.specs.declared.Question.{Question}
use Rattle.spk.specs.contracts.Question.swapped as m-question-swapped
use Rattle.spk.specs.contracts.remembered as m-remembered
use Rattle.spk.specs.contracts.Answer.turned as m-answer-turned
use Rattle.spk.specs.contracts.forward as m-forward
use Rattle.spk.specs.contracts.reversed as m-reversed
use Rattle.spk.specs.contracts.by_chain as m-by-chain
use Rattle.spk.specs.contracts.with_memory as m-with-memory
use Rattle.spk.specs.contracts.Question.hits as m-question-hits
use Rattle.spk.specs.contracts.recall as m-recall
use Rattle.spk.specs.contracts.start_of as m-start-of
use Rattle.spk.specs.contracts.early as m-early
use Rattle.spk.specs.contracts.turned as m-turned
use Rattle.spk.specs.contracts.alone_by as m-alone-by
use Rattle.spk.specs.contracts.chain_of as m-chain-of
use Rattle.spk.specs.contracts.ask as m-ask

module _ {M : Type 1} {𝓤 : Ura M} (𝓛 : Logic 𝓤) (mem : Memory → SProp 𝓤) (run : Routine → Fun 𝓤) where
  pub two_question_swapped : Determined 𝓤 m-question-swapped.ended (m-question-swapped.clauses 𝓛 mem run)
  two_question_swapped κs a g r r' ws ws' = equal 𝓤 refl

  pub two_remembered : Determined 𝓤 m-remembered.ended (m-remembered.clauses 𝓛 mem run)
  two_remembered κs a g r r' ws ws' = equal 𝓤 refl

  pub two_answer_turned : Determined 𝓤 m-answer-turned.ended (m-answer-turned.clauses 𝓛 mem run)
  two_answer_turned κs a g r r' ws ws' = equal 𝓤 refl

  pub two_forward : Determined 𝓤 m-forward.ended (m-forward.clauses 𝓛 mem run)
  two_forward κs a g r r' ws ws' = equal 𝓤 refl

  pub two_reversed : Determined 𝓤 m-reversed.ended (m-reversed.clauses 𝓛 mem run)
  two_reversed κs a g r r' ws ws' = equal 𝓤 refl

  pub two_by_chain : Determined 𝓤 m-by-chain.ended (m-by-chain.clauses 𝓛 mem run)
  two_by_chain κs a g r r' ws ws' = equal 𝓤 refl

  pub two_with_memory : Determined 𝓤 m-with-memory.ended (m-with-memory.clauses 𝓛 mem run)
  two_with_memory κs a g r r' ws ws' = equal 𝓤 refl

  pub two_question_hits : Determined 𝓤 m-question-hits.ended (m-question-hits.clauses 𝓛 mem run)
  two_question_hits κs a g r r' ws ws' = equal 𝓤 refl

  pub two_recall : Determined 𝓤 m-recall.ended (m-recall.clauses 𝓛 mem run)
  two_recall κs a g r r' ws ws' = equal 𝓤 refl

  pub two_start_of : Determined 𝓤 m-start-of.ended (m-start-of.clauses 𝓛 mem run)
  two_start_of κs a g r r' ws ws' = equal 𝓤 refl

  pub two_early : Determined 𝓤 m-early.ended (m-early.clauses 𝓛 mem run)
  two_early κs a g r r' ws ws' = equal 𝓤 refl

  pub two_turned : Determined 𝓤 m-turned.ended (m-turned.clauses 𝓛 mem run)
  two_turned κs a g r r' ws ws' = equal 𝓤 refl

  pub two_alone_by : Determined 𝓤 m-alone-by.ended (m-alone-by.clauses 𝓛 mem run)
  two_alone_by κs a g r r' ws ws' = equal 𝓤 refl

  -- where the closure computes some walk
  pub two_chain_of : (W : RattleType) (walk : Shared W.Denot (Bor Question × Unit {0}) (Result Given Refusal)) (d₁ d₂ d₃ d₄ : Dict)
      → DeterminedWhere 𝓤 (m-chain-of.ended W walk d₁ d₂ d₃ d₄)
      (λ κs a. (z : Question → Result Given Refusal) × ((p : Question) (r : Result Given Refusal) → FnReturnsAt walk a.0 p r → r ≡ z p))
      (m-chain-of.clauses W walk d₁ d₂ d₃ d₄ 𝓛 mem run)
  two_chain_of W walk d₁ d₂ d₃ d₄ κs a w g r r' ws ws' = alike 𝓤 (λ h h'. (h w.0 w.1 ∙ sym (h' w.0 w.1), refl))

  -- where the one closure computes some choice, and the other some chain
  pub two_ask : (L C : RattleType) (last : Shared L.Denot (Bor Question × Unit {0}) (Option ℕ)) (d₁ d₂ d₃ : Dict)
      (chain : Shared C.Denot (Bor Question × Unit {0}) (Result Given Refusal)) (d₄ d₅ d₆ d₇ d₈ : Dict)
      → DeterminedWhere 𝓤 (m-ask.ended L C last d₁ d₂ d₃ chain d₄ d₅ d₆ d₇ d₈)
      (λ κs a. (l : Question → Option ℕ) × (z : Question → Result Given Refusal) × ((p : Question) (r : Option ℕ) → FnReturnsAt last a.1.1.1.1.1.0 p r → r ≡ l p)
      × ((p : Question) (r : Result Given Refusal) → FnReturnsAt chain a.1.1.1.1.1.1.0 p r → r ≡ z p))
      (m-ask.clauses L C last d₁ d₂ d₃ chain d₄ d₅ d₆ d₇ d₈ 𝓛 mem run)
  two_ask L C last d₁ d₂ d₃ chain d₄ d₅ d₆ d₇ d₈ κs a w g r r' ws ws' = alike 𝓤 (λ h h'. (h w.0 w.1 w.2 w.3 ∙ sym (h' w.0 w.1 w.2 w.3), refl))
