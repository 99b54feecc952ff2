-- Laws of a step's scan: of `met` and `look`, one for each way through the code. Assumes nothing.
use mathlib.Core.Path.{◌≡◌, refl, sym, ap, ap₂, ◌∙◌}
use mathlib.Core.Bool.{Bool, true, false, cond}
use mathlib.Core.List.{List}
use Prim.Native.Nat.{ℕ}
use lib.IntN.{ℤ}
use Rattle.frame.specs.declared.State.{State}
use Rattle.frame.specs.declared.Given.{Given}
use Rattle.frame.specs.Given.{given_of}
use Rattle.segment.specs.declared.Segment.{Segment}
use Rattle.segment.specs.declared.Valued.{Valued}
use Rattle.std.proofs.Common.{Result, Ok}
use Rattle.refusal.specs.declared.Refusal.{Refusal}
use Rattle.chain.specs.declared.Leg.{Leg}
use Rattle.chain.specs.declared.Hop.{Hop}
use Rattle.chain.specs.declared.Step.{Step}
use Rattle.chain.specs.declared.Step.TheVariants.{Blocked, Kept, Zero}
use Rattle.chain.specs.Step.{Evaluation, leaves, reaches_zero, given_by, kept_or, met, seen, look, step_in, step_from}

-- what is given in two frames that are one
pub given_in : (x : State) (b : Bool) {f g : ℤ} → f ≡ g → given_of x f b ≡ given_of x g b
given_in x b e = ap (λ (h : ℤ). given_of x h b) e

-- two hops are equal by their fields
pub hop_eq : (a b : Hop) → a.center ≡ b.center → a.given ≡ b.given → a ≡ b
hop_eq a b p q = λ i. record { center = p i; given = q i }

module _ (kept : Step) (s : Segment) (x : Given) where
  -- the segment goes to body 0
  pub met_home : reaches_zero s ≡ true → Zero x ≡ met kept s x
  unfolding met
  met_home e = sym (ap (λ (b : Bool). cond b (Zero x) (kept_or kept (Kept (record { center = s.center; given = x })))) e)

  -- it goes elsewhere
  pub met_else : (old : Step) (hop : Hop) → reaches_zero s ≡ false → kept ≡ old → hop.center ≡ s.center → hop.given ≡ x → kept_or old (Kept hop) ≡ met kept s x
  unfolding met
  met_else old hop e o p q =
      ap₂ (λ (a : Step) (h : Hop). kept_or a (Kept h)) (sym o) (hop_eq hop (record { center = s.center; given = x }) p q)
      ∙ sym (ap (λ (b : Bool). cond b (Zero x) (kept_or kept (Kept (record { center = s.center; given = x })))) e)

module _ (ev : Evaluation) (leg : Leg) (kept : Step) (s : Segment) (i : ℕ) where
  -- the segment is passed over
  pub look_past : leaves s leg ≡ false → kept ≡ look ev leg kept s i
  unfolding look
  look_past e = sym (ap (λ (b : Bool). cond b (seen kept s (ev s i leg.et)) kept) e)

  -- it is evaluated
  pub look_seen : (e : Result Valued Refusal) → leaves s leg ≡ true → ev s i leg.et ≡ e → seen kept s e ≡ look ev leg kept s i
  unfolding look
  look_seen e l h =
      ap (seen kept s) (sym h) ∙ sym (ap (λ (b : Bool). cond b (seen kept s (ev s i leg.et)) kept) l)

  -- it gives a state
  pub look_given : (x : Valued) (g : Given) (next : Step) → leaves s leg ≡ true → ev s i leg.et ≡ Ok x → g ≡ given_by s x → next ≡ met kept s g → next ≡ look ev leg kept s i
  look_given x g next l h e t = t ∙ ap (met kept s) e ∙ look_seen (Ok x) l h

-- ---- the whole scan
module _ (ev : Evaluation) (segs : List Segment) (leg : Leg) where
  pub step_from_lem : (n : ℕ) → step_from ev segs n leg ≡ step_in ev segs leg Blocked 0 n
  unfolding step_from
  step_from_lem n = refl
