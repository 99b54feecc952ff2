-- Laws of a walk by what a step gives: its end and a step of it; where the steps are those over all segments, it is the plain one. Assumes nothing.
use Rattle.std.proofs.Common.{◌≡◌, ℕ, zero, suc, ◌-◌, Bool, true, false, cond, List, Result, Ok, ◌∙◌, refl, sym, ap, arith}
use mathlib.Core.Bool.{true≢false}
use borrow.Author.Tests.{eq-eqb}
use Rattle.std.proofs.lemmas.Bool.{eqb-true}
use Rattle.frame.specs.declared.Given.{Given}
use Rattle.refusal.specs.declared.Refusal.{Refusal}
use Rattle.segment.specs.declared.Segment.{Segment}
use Rattle.chain.specs.declared.Leg.{Leg}
use Rattle.chain.specs.declared.Step.{Step}
use Rattle.chain.specs.declared.Next.{Next}
use Rattle.chain.specs.declared.Next.TheVariants.{Ended, Onward}
use Rattle.chain.specs.Step.{Evaluation, step_from}
use Rattle.chain.specs.Walk.{chain_limit, no_coverage, advance, follow, walk_from, is_zero}
use Rattle.chain.specs.Walked.{walk_by, to_zero_by}
use Rattle.chain.specs.Steps.{is_over, end_of, leg_of, begin}
use Rattle.chain.proofs.Walks.{ahead}

module _ (step : Leg → Step) where
  -- what a walk of at most so many steps results in, from where it stands
  abbrev pub on_by : ℕ → Next → Result Given Refusal
  on_by w a = follow (λ (on : Leg). walk_by step on w) a

  pub on_end : (g : Leg) → no_coverage g.start ≡ on_by zero (Onward g)
  unfolding walk_by
  on_end g = refl

  pub on_step : (g : Leg) (m : ℕ) → on_by m (advance g (step g)) ≡ on_by (suc m) (Onward g)
  unfolding walk_by
  on_step g m = refl

  pub begin_by : (g : Leg) → on_by chain_limit (begin g) ≡ to_zero_by step g
  unfolding to_zero_by begin
  begin_by g = go (is_zero g)
    where
      go : (b : Bool) → on_by chain_limit (cond b (Ended (Ok g.total)) (Onward g)) ≡ cond b (Ok g.total) (walk_by step g chain_limit)
      go true = refl
      go false = refl

  -- it is over
  pub by_over : (at : Next) (left : ℕ) → is_over at left ≡ true → end_of at ≡ on_by left at
  by_over (Ended e) left h = refl
  by_over (Onward leg) left h =
      let none : left ≡ 0 = eqb-true left 0 h in
      on_end leg ∙ ap (λ (m : ℕ). on_by m (Onward leg)) (sym none)

  -- it takes a step more
  pub by_more : (at : Next) (left : ℕ) (leg : Leg) (met : Step) (next : Next) → is_over at left ≡ false
      → leg ≡ leg_of at → met ≡ step leg → next ≡ advance leg met
      → on_by (left - 1) next ≡ on_by left at
  by_more (Ended e) left leg met next h from made on = absurd (true≢false h)
  by_more (Onward g) left leg met next h from made on =
      let ne : left ≡ 0 → ⊥ = (λ e. true≢false (sym (eq-eqb left 0 e) ∙ h)) in
      let some : suc (left - 1) ≡ left = omega (arith, ne) in
      ap (on_by (left - 1)) (on ∙ ap (advance leg) made ∙ ap (λ (x : Leg). advance x (step x)) from)
      ∙ on_step g (left - 1) ∙ ap (λ (m : ℕ). on_by m (Onward g)) some

module _ (ev : Evaluation) (segs : List Segment) (n : ℕ) where
  -- where steps are those over all segments, so is the walk
  pub walk_same : (step : Leg → Step) → ((leg : Leg) → step leg ≡ step_from ev segs n leg)
      → (left : ℕ) (leg : Leg) → walk_by step leg left ≡ walk_from ev segs n leg left
  unfolding walk_by walk_from
  walk_same step same zero leg = refl
  walk_same step same (suc left) leg =
      ap (λ (x : Step). follow (λ on. walk_by step on left) (advance leg x)) (same leg)
      ∙ ap (λ (go : Leg → Result Given Refusal). follow go (advance leg (step_from ev segs n leg))) (λ i on. walk_same step same left on i)

  -- a walk by the step over the first n segments is the plain one, from where it stands
  pub ahead_same : (left : ℕ) (at : Next) → on_by (step_from ev segs n) left at ≡ ahead ev segs n left at
  ahead_same left at = ap (λ (go : Leg → Result Given Refusal). follow go at) (λ i on. walk_same (step_from ev segs n) (λ l. refl) left on i)
