-- AS BEFORE: a walk is the walk as it was defined before a state said whether a record was stretched (`Before` in `specs`), with the word left out.
--     yield_as_before   what one segment gives: its state in its frame, or its refusal
--     zero_as_before    the end of a walk to body 0: its state in its frame, or its refusal
-- Assumes nothing.
use Prim.Native.Nat.{ℕ, zero, suc}
use mathlib.Core.Path.{◌≡◌, refl, sym, ap, ap₂, ◌∙◌}
use mathlib.Core.Bool.{Bool, true, false, cond}
use mathlib.Core.List.{List}
use Rattle.frame.specs.declared.Given.{Given}
use Rattle.segment.specs.declared.Segment.{Segment}
use Rattle.std.proofs.Common.{Result, Ok, Err}
use Rattle.refusal.specs.declared.Refusal.{Refusal}
use Rattle.segment.specs.declared.Valued.{Valued}
use Rattle.segment.specs.Before.{bare_evaluated}
use Rattle.table.specs.Segments.{seg}
use Rattle.chain.specs.declared.Leg.{Leg}
use Rattle.chain.specs.declared.Hop.{Hop}
use Rattle.chain.specs.declared.Step.{Step}
use Rattle.chain.specs.declared.Step.TheVariants as step
use Rattle.chain.specs.declared.Next.{Next}
use Rattle.chain.specs.declared.Next.TheVariants as next
use Rattle.chain.specs.Step.{Evaluation, reaches_zero, kept_or, given_by, yield_of, met, seen, leaves, look, is_end, step_in, step_from}
use Rattle.bits.proofs.Tests.{by_test_lem}
use Rattle.chain.proofs.Steps.{met_home, met_else}
use Rattle.chain.specs.Before.{Gave, OldHop, OldStep, OldNext, Blocked, Kept, Zero, Refused, Ended, Onward, old_kept_or, old_met, old_seen, old_look, old_is_end, old_step_in, old_no_coverage, old_onward, old_advance, old_follow, old_walk_from, old_to_zero, old_yield_of, bare_given, bare, bare_leg, bare_evaluation}
use Rattle.chain.specs.Walk.{chain_limit, no_coverage, onward, returns, advance, follow, walk_from, is_zero, to_zero}

-- ---- the word left out
abbrev bare_hop : Hop → OldHop
bare_hop hop = record { center = hop.center; given = bare_given hop.given }

abbrev bare_step : Step → OldStep
bare_step step.Blocked = Blocked
bare_step (step.Kept hop) = Kept (bare_hop hop)
bare_step (step.Zero x) = Zero (bare_given x)
bare_step (step.Refused r) = Refused r

abbrev bare_next : Next → OldNext
bare_next (next.Ended e) = Ended (bare e)
bare_next (next.Onward leg) = Onward (bare_leg leg)

pub yield_as_before : (s : Segment) (e : Result Valued Refusal) → bare (yield_of s e) ≡ old_yield_of s (bare_evaluated e)
yield_as_before s (Ok x) = refl
yield_as_before s (Err r) = refl

-- ---- a step
met_as : (kept : Step) (s : Segment) (g : Given) → bare_step (met kept s g) ≡ old_met (bare_step kept) s (bare_given g)
met_as kept s g =
    by_test_lem (reaches_zero s) (λ e. ap bare_step (sym (met_home kept s g e)) ∙ sym (ap old e))
    (λ e. ap bare_step (sym (met_else kept s g kept hop e refl refl refl)) ∙ kept_as kept ∙ sym (ap old e))
  where
    hop : Hop
    hop = record { center = s.center; given = g }

    old : Bool → OldStep
    old b = cond b (Zero (bare_given g)) (old_kept_or (bare_step kept) (Kept (bare_hop hop)))

    kept_as : (k : Step) → bare_step (kept_or k (step.Kept hop)) ≡ old_kept_or (bare_step k) (Kept (bare_hop hop))
    kept_as step.Blocked = refl
    kept_as (step.Kept y) = refl
    kept_as (step.Zero y) = refl
    kept_as (step.Refused r) = refl

module _ (ev : Evaluation) (segs : List Segment) where
  look_as : (leg : Leg) (kept : Step) (s : Segment) (i : ℕ) → bare_step (look ev leg kept s i) ≡ old_look (bare_evaluation ev) (bare_leg leg) (bare_step kept) s i
  unfolding look
  look_as leg kept s i = go (leaves s leg) (ev s i leg.et)
    where
      go : (b : Bool) (e : Result Valued Refusal) → bare_step (cond b (seen kept s e) kept) ≡ cond b (old_seen (bare_step kept) s (bare_evaluated e)) (bare_step kept)
      go true (Ok x) = met_as kept s (given_by s x)
      go true (Err r) = refl
      go false e = refl

  end_as : (x : Step) → is_end x ≡ old_is_end (bare_step x)
  end_as step.Blocked = refl
  end_as (step.Kept hop) = refl
  end_as (step.Zero x) = refl
  end_as (step.Refused r) = refl

  step_as : (leg : Leg) (kept : Step) (i r : ℕ) → bare_step (step_in ev segs leg kept i r) ≡ old_step_in (bare_evaluation ev) segs (bare_leg leg) (bare_step kept) i r
  unfolding step_in old_step_in
  step_as leg kept i zero = refl
  step_as leg kept i (suc r) =
      go (is_end on) (step_in ev segs leg on (suc i) r)
      ∙ ap₂ (λ (b : Bool) (x : OldStep). cond b (bare_step on) x) (end_as on) (step_as leg on (suc i) r)
      ∙ ap (λ (x : OldStep). cond (old_is_end x) x (old_step_in (bare_evaluation ev) segs (bare_leg leg) x (suc i) r)) (look_as leg kept (seg segs i) i)
    where
      on : Step
      on = look ev leg kept (seg segs i) i

      go : (b : Bool) (rest : Step) → bare_step (cond b on rest) ≡ cond b (bare_step on) (bare_step rest)
      go true rest = refl
      go false rest = refl

  -- ---- a walk
  advance_as : (leg : Leg) (x : Step) → bare_next (advance leg x) ≡ old_advance (bare_leg leg) (bare_step x)
  advance_as leg step.Blocked = refl
  advance_as leg (step.Kept hop) = go (returns leg hop)
    where
      go : (b : Bool) → bare_next (cond b (next.Ended (no_coverage leg.start)) (next.Onward (onward leg hop)))
          ≡ cond b (Ended (old_no_coverage leg.start)) (Onward (old_onward (bare_leg leg) (bare_hop hop)))
      go true = refl
      go false = refl
  advance_as leg (step.Zero x) = refl
  advance_as leg (step.Refused r) = refl

  module _ (n : ℕ) where
    walk_as : (leg : Leg) (left : ℕ) → bare (walk_from ev segs n leg left) ≡ old_walk_from (bare_evaluation ev) segs n (bare_leg leg) left
    unfolding walk_from old_walk_from step_from
    walk_as leg zero = refl
    walk_as leg (suc left) =
        go (λ on. walk_as on left) (advance leg (step_from ev segs n leg))
        ∙ ap (old_follow (λ on. old_walk_from (bare_evaluation ev) segs n on left))
        (advance_as leg (step_from ev segs n leg) ∙ ap (old_advance (bare_leg leg)) (step_as leg step.Blocked 0 n))
      where
        go : ((on : Leg) → bare (walk_from ev segs n on left) ≡ old_walk_from (bare_evaluation ev) segs n (bare_leg on) left) → (x : Next)
            → bare (follow (λ on. walk_from ev segs n on left) x) ≡ old_follow (λ on. old_walk_from (bare_evaluation ev) segs n on left) (bare_next x)
        go ih (next.Ended e) = refl
        go ih (next.Onward on) = ih on

    pub zero_as_before : (leg : Leg) → bare (to_zero ev segs n leg) ≡ old_to_zero (bare_evaluation ev) segs n (bare_leg leg)
    unfolding to_zero
    zero_as_before leg = go (is_zero leg)
      where
        go : (b : Bool) → bare (cond b (Ok leg.total) (walk_from ev segs n leg chain_limit))
            ≡ cond b (Gave (bare_given leg.total)) (old_walk_from (bare_evaluation ev) segs n (bare_leg leg) chain_limit)
        go true = refl
        go false = walk_as leg chain_limit
