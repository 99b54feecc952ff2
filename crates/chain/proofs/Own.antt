-- A walk depends on nothing but the segments that it evaluates: two evaluations that agree on those give it the same end. Assumes nothing.
use mathlib.Core.Path.{◌≡◌, refl, sym, ap, ◌∙◌}
use mathlib.Core.Bool.{Bool, true, false, cond}
use mathlib.Core.List.{List}
use Prim.Native.Nat.{ℕ, zero, suc}
use lib.Ieee.{Float}
use Rattle.bits.proofs.Tests.{by_test_lem}
use Rattle.segment.specs.declared.Segment.{Segment}
use Rattle.std.proofs.Common.{Result}
use Rattle.refusal.specs.declared.Refusal.{Refusal}
use Rattle.segment.specs.declared.Valued.{Valued}
use Rattle.table.specs.Segments.{seg}
use Rattle.chain.specs.declared.Leg.{Leg}
use Rattle.chain.specs.declared.Step.{Step}
use Rattle.chain.specs.declared.Step.TheVariants.{Blocked}
use Rattle.chain.specs.declared.Next.{Next}
use Rattle.chain.specs.declared.Next.TheVariants.{Ended, Onward}
use Rattle.chain.specs.Step.{Evaluation, leaves, seen, look, is_end, step_in, step_from}
use Rattle.chain.specs.Walk.{chain_limit, advance, follow, walk_from, is_zero, to_zero}
use Rattle.chain.specs.Touched.{TouchedIn, of_next, TouchedOn}
use Rattle.chain.proofs.Steps.{look_past}
use Rattle.chain.proofs.Walks.{zero_home, zero_walk}

-- two evaluations agree on segment i, at every epoch
abbrev pub Alike : Evaluation → Evaluation → List Segment → ℕ → Type 0
Alike ev ev' segs i = (et : Float) → ev (seg segs i) i et ≡ ev' (seg segs i) i et

-- ---- what holds of the segments that are evaluated, and implies something, makes that hold of them
module _ (ev : Evaluation) (segs : List Segment) (P Q : ℕ → Type 0) (f : (i : ℕ) → P i → Q i) where
  touched_in : (leg : Leg) (kept : Step) (i r : ℕ) → TouchedIn ev segs P leg kept i r → TouchedIn ev segs Q leg kept i r
  unfolding TouchedIn
  touched_in leg kept i zero t = tt
  touched_in leg kept i (suc r) t = (λ l. f i (t.0 l), λ e. touched_in leg (look ev leg kept (seg segs i) i) (suc i) r (t.1 e))

  pub touched_on : (n : ℕ) (leg : Leg) (left : ℕ) → TouchedOn ev segs n P leg left → TouchedOn ev segs n Q leg left
  unfolding TouchedOn
  touched_on n leg zero t = tt
  touched_on n leg (suc left) t =
      (touched_in leg Blocked 0 n t.0, go (advance leg (step_from ev segs n leg)) (λ on. touched_on n on left) t.1)
    where
      go : (next : Next) → ((on : Leg) → TouchedOn ev segs n P on left → TouchedOn ev segs n Q on left)
          → of_next (λ on. TouchedOn ev segs n P on left) next → of_next (λ on. TouchedOn ev segs n Q on left) next
      go (Ended e) ih p = tt
      go (Onward on) ih p = ih on p

-- ---- two evaluations that agree on the segments that are evaluated
module _ (ev ev' : Evaluation) (segs : List Segment) where
  look_alike : (leg : Leg) (kept : Step) (i : ℕ) → (leaves (seg segs i) leg ≡ true → Alike ev ev' segs i)
      → look ev leg kept (seg segs i) i ≡ look ev' leg kept (seg segs i) i
  unfolding look
  look_alike leg kept i same =
      by_test_lem (leaves (seg segs i) leg)
      (λ l. ap (λ (e : Result Valued Refusal). cond (leaves (seg segs i) leg) (seen kept (seg segs i) e) kept) (same l leg.et))
      (λ l. sym (look_past ev leg kept (seg segs i) i l) ∙ look_past ev' leg kept (seg segs i) i l)

  step_alike : (leg : Leg) (kept : Step) (i r : ℕ) → TouchedIn ev segs (Alike ev ev' segs) leg kept i r
      → step_in ev segs leg kept i r ≡ step_in ev' segs leg kept i r
  unfolding step_in TouchedIn
  step_alike leg kept i zero t = refl
  step_alike leg kept i (suc r) t =
      go (is_end next) refl (λ e. step_alike leg next (suc i) r (t.1 e))
      ∙ ap (λ (x : Step). cond (is_end x) x (step_in ev' segs leg x (suc i) r)) (look_alike leg kept i t.0)
    where
      next : Step
      next = look ev leg kept (seg segs i) i

      go : (b : Bool) → is_end next ≡ b → (is_end next ≡ false → step_in ev segs leg next (suc i) r ≡ step_in ev' segs leg next (suc i) r)
          → cond b next (step_in ev segs leg next (suc i) r) ≡ cond b next (step_in ev' segs leg next (suc i) r)
      go true e ih = refl
      go false e ih = ih e

  module _ (n : ℕ) where
    pub walk_alike : (leg : Leg) (left : ℕ) → TouchedOn ev segs n (Alike ev ev' segs) leg left → walk_from ev segs n leg left ≡ walk_from ev' segs n leg left
    unfolding walk_from TouchedOn step_from
    walk_alike leg zero t = refl
    walk_alike leg (suc left) t =
        go (advance leg (step_from ev segs n leg)) (λ on. walk_alike on left) t.1
        ∙ ap (λ (x : Step). follow (λ on. walk_from ev' segs n on left) (advance leg x)) (step_alike leg Blocked 0 n t.0)
      where
        go : (next : Next) → ((on : Leg) → TouchedOn ev segs n (Alike ev ev' segs) on left → walk_from ev segs n on left ≡ walk_from ev' segs n on left)
            → of_next (λ on. TouchedOn ev segs n (Alike ev ev' segs) on left) next
            → follow (λ on. walk_from ev segs n on left) next ≡ follow (λ on. walk_from ev' segs n on left) next
        go (Ended e) ih p = refl
        go (Onward on) ih p = ih on p

    -- body 0 takes no step
    pub zero_alike : (leg : Leg) → (is_zero leg ≡ false → TouchedOn ev segs n (Alike ev ev' segs) leg chain_limit) → to_zero ev segs n leg ≡ to_zero ev' segs n leg
    zero_alike leg t =
        by_test_lem (is_zero leg) (λ e. zero_home ev segs n leg e ∙ sym (zero_home ev' segs n leg e))
        (λ e. zero_walk ev segs n leg e ∙ walk_alike leg chain_limit (t e) ∙ sym (zero_walk ev' segs n leg e))
