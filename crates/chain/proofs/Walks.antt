-- Laws of the walk: of `advance`, one for each way through the code, and of `walk_from`, its end and a step. Assumes nothing.
use mathlib.Core.Path.{◌≡◌, sym, ap, ◌∙◌}
use mathlib.Core.Bool.{Bool, true, false, cond}
use mathlib.Core.List.{List}
use Prim.Native.Nat.{ℕ, suc}
use Rattle.segment.specs.declared.Segment.{Segment}
use Rattle.std.proofs.Common.{Result, Ok}
use Rattle.chain.specs.declared.Leg.{Leg}
use Rattle.chain.specs.declared.Hop.{Hop}
use Rattle.chain.specs.declared.Step.{Step}
use Rattle.chain.specs.declared.Step.TheVariants.{Kept}
use Rattle.chain.specs.declared.Next.{Next}
use Rattle.chain.specs.declared.Next.TheVariants.{Ended, Onward}
use Rattle.chain.specs.Step.{Evaluation, step_from}
use Rattle.chain.specs.Walk.{chain_limit, no_coverage, onward, returns, advance, follow, walk_from, is_zero, to_zero}
use Rattle.chain.specs.Steps.{begin}
use Rattle.bits.proofs.Tests.{by_test_lem}
use Rattle.frame.specs.declared.Given.{Given}
use Rattle.refusal.specs.declared.Refusal.{Refusal}

-- two legs are equal by their fields
pub leg_eq : (a b : Leg) → a.start ≡ b.start → a.body ≡ b.body → a.et ≡ b.et → a.total ≡ b.total → a ≡ b
leg_eq a b p q e t = λ i. record { start = p i; body = q i; et = e i; total = t i }

-- what a hop leads to, by whether it goes back to the starting body
pub advance_kept : (leg : Leg) (step : Step) (hop : Hop) (b : Bool) → step ≡ Kept hop → returns leg hop ≡ b
    → advance leg step ≡ cond b (Ended (no_coverage leg.start)) (Onward (onward leg hop))
advance_kept leg step hop b e r =
    ap (advance leg) e ∙ ap (λ (x : Bool). cond x (Ended (no_coverage leg.start)) (Onward (onward leg hop))) r

module _ (ev : Evaluation) (segs : List Segment) (n : ℕ) (leg : Leg) where
  -- no step is left
  pub walk_end : (left : ℕ) → left ≡ 0 → walk_from ev segs n leg left ≡ no_coverage leg.start
  unfolding walk_from
  walk_end left e = ap (walk_from ev segs n leg) e

  -- a step, whatever it leads to
  pub walk_step : (left less : ℕ) (next : Next) → left ≡ suc less → advance leg (step_from ev segs n leg) ≡ next
      → walk_from ev segs n leg left ≡ follow (λ on. walk_from ev segs n on less) next
  unfolding walk_from
  walk_step left less next e h = ap (walk_from ev segs n leg) e ∙ ap (follow (λ on. walk_from ev segs n on less)) h

  -- body 0 takes no step, and any other walks
  pub zero_home : is_zero leg ≡ true → to_zero ev segs n leg ≡ Ok leg.total
  unfolding to_zero
  zero_home e = ap (λ (b : Bool). cond b (Ok leg.total) (walk_from ev segs n leg chain_limit)) e

  pub zero_walk : is_zero leg ≡ false → to_zero ev segs n leg ≡ walk_from ev segs n leg chain_limit
  unfolding to_zero
  zero_walk e = ap (λ (b : Bool). cond b (Ok leg.total) (walk_from ev segs n leg chain_limit)) e

-- ---- a walk from where it stands
module _ (ev : Evaluation) (segs : List Segment) (n : ℕ) where
  abbrev pub ahead : ℕ → Next → Result Given Refusal
  ahead left at = follow (λ (on : Leg). walk_from ev segs n on left) at

  pub begin_told : (leg : Leg) → ahead chain_limit (begin leg) ≡ to_zero ev segs n leg
  unfolding begin
  begin_told leg = by_test_lem (is_zero leg)
      (λ e. ap (λ (b : Bool). ahead chain_limit (cond b (Ended (Ok leg.total)) (Onward leg))) e ∙ sym (zero_home ev segs n leg e))
      (λ e. ap (λ (b : Bool). ahead chain_limit (cond b (Ended (Ok leg.total)) (Onward leg))) e ∙ sym (zero_walk ev segs n leg e))

pub begin_at : (leg x : Leg) (b : Bool) → leg ≡ x → is_zero leg ≡ b → cond b (Ended (Ok leg.total)) (Onward leg) ≡ begin x
unfolding begin
begin_at leg x b e h = ap (λ (y : Bool). cond y (Ended (Ok leg.total)) (Onward leg)) (sym h) ∙ ap begin e
