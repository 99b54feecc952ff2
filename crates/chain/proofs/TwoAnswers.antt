-- Any two answers that the contract of a public function permits are equal. Assumes nothing.
use mathlib.Core.Path.{◌≡◌, refl, sym, ◌∙◌}
use mathlib.Core.List.{List}
use Prim.Native.Nat.{ℕ}
use seplogic.Ra.Ura.{Ura}
use mir.Syntax.{Dict}
use base.Logic.{SProp}
use prog.Memory.{Memory}
use prog.Routine.{Routine}
use types.Logic.{Logic}
use contract.Monad.{Fun}
use denote.RattleType.{RattleType}
use denote.Ref.{Bor}
use Rattle.std.specs.Prelude.{length}
use Rattle.std.specs.Fn.{Shared}
use Rattle.std.specs.declared.iter.Iterator.{Ghosts}
use Rattle.promised.specs.Promised.{Determined, DeterminedWhere}
use Rattle.promised.proofs.Alike.{alike, equal}
use Rattle.segment.specs.declared.Segment.{Segment}
use Rattle.table.specs.Places.{limit_of}
use Rattle.table.specs.Visits.{Visits}
use Rattle.chain.specs.declared.Leg.{Leg}
use Rattle.chain.specs.declared.Step.{Step}
use Rattle.chain.specs.contracts.leaves as m-leaves
use Rattle.chain.specs.contracts.look as m-look
use Rattle.chain.specs.contracts.advance as m-advance
use Rattle.chain.specs.contracts.is_zero as m-is-zero
use Rattle.chain.specs.contracts.is_over as m-is-over
use Rattle.chain.specs.contracts.end_of as m-end-of
use Rattle.chain.specs.contracts.leg_of as m-leg-of
use Rattle.chain.specs.contracts.step_along as m-step-along
use Rattle.chain.specs.contracts.walk as m-walk

module _ {M : Type 1} {𝓤 : Ura M} (𝓛 : Logic 𝓤) (mem : Memory → SProp 𝓤) (run : Routine → Fun 𝓤) where
  pub two_leaves : Determined 𝓤 m-leaves.ended (m-leaves.clauses 𝓛 mem run)
  two_leaves κs a g r r' ws ws' = equal 𝓤 refl

  pub two_look : Determined 𝓤 m-look.ended (m-look.clauses 𝓛 mem run)
  two_look κs a g r r' ws ws' = equal 𝓤 refl

  pub two_advance : Determined 𝓤 m-advance.ended (m-advance.clauses 𝓛 mem run)
  two_advance κs a g r r' ws ws' = equal 𝓤 refl

  pub two_is_zero : Determined 𝓤 m-is-zero.ended (m-is-zero.clauses 𝓛 mem run)
  two_is_zero κs a g r r' ws ws' = equal 𝓤 refl

  pub two_is_over : Determined 𝓤 m-is-over.ended (m-is-over.clauses 𝓛 mem run)
  two_is_over κs a g r r' ws ws' = equal 𝓤 refl

  pub two_end_of : Determined 𝓤 m-end-of.ended (m-end-of.clauses 𝓛 mem run)
  two_end_of κs a g r r' ws ws' = equal 𝓤 refl

  pub two_leg_of : Determined 𝓤 m-leg-of.ended (m-leg-of.clauses 𝓛 mem run)
  two_leg_of κs a g r r' ws ws' = equal 𝓤 refl

  -- where the iterator gives some list of numbers
  pub two_step_along : (I : RattleType) (it : Ghosts I.Denot ℕ) (d d₁ : Dict)
      → DeterminedWhere 𝓤 (m-step-along.ended I it d d₁) (λ κs a. (xs : List ℕ) × Visits it.next_gives a.1.1.0 (limit_of (length a.1.0.now)) xs) (m-step-along.clauses I it d d₁ 𝓛 mem run)
  two_step_along I it d d₁ κs a w g r r' ws ws' = alike 𝓤 (λ h h'. (h w.0 w.1 ∙ sym (h' w.0 w.1), refl))

  -- where the closure computes some step over the segments that are lent
  pub two_walk : (F : RattleType) (step : Shared F.Denot (Bor (List Segment) × (Bor Leg × Unit {0})) Step) (d₁ d₂ d₃ d₄ : Dict)
      → DeterminedWhere 𝓤 (m-walk.ended F step d₁ d₂ d₃ d₄)
      (λ κs a. (s : Leg → Step) × ((t : Bor (List Segment)) (leg : Bor Leg) (r : Step) → t.now ≡ a.0.now → step.post a.1.0 (t, (leg, tt)) r → r ≡ s leg.now))
      (m-walk.clauses F step d₁ d₂ d₃ d₄ 𝓛 mem run)
  two_walk F step d₁ d₂ d₃ d₄ κs a w g r r' ws ws' = alike 𝓤 (λ h h'. (h w.0 w.1 ∙ sym (h' w.0 w.1), refl))
