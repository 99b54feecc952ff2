-- A WALK THAT TAKES A STEP IS IN A FRAME, one or several: the segment that it ends with is in one. Assumes nothing.
use Prim.Native.Nat.{ℕ, zero, suc}
use mathlib.Core.Path.{◌≡◌, refl, sym, ap, ◌∙◌}
use mathlib.Core.Bool.{Bool, true, false, cond, false≢true}
use mathlib.Core.List.{List}
use lib.IntN.{ℤ}
use Rattle.bits.specs.Same.{same_z}
use Rattle.frame.specs.declared.Given.{Given}
use Rattle.frame.specs.declared.Framed.{Framed}
use Rattle.frame.specs.declared.Framed.TheVariants.{Nothing, One, Mixed}
use Rattle.frame.specs.Framed.{joined_with, joined}
use Rattle.segment.specs.declared.Segment.{Segment}
use Rattle.segment.specs.declared.Valued.{Valued}
use Rattle.std.proofs.Common.{Result, Ok, Err}
use Rattle.refusal.specs.declared.Refusal.{Refusal}
use Rattle.table.specs.Segments.{seg}
use Rattle.chain.specs.declared.Leg.{Leg}
use Rattle.chain.specs.declared.Step.{Step}
use Rattle.chain.specs.declared.Step.TheVariants.{Blocked, Kept, Zero, Refused}
use Rattle.chain.specs.declared.Next.TheVariants.{Ended, Onward}
use Rattle.chain.specs.Step.{Evaluation, leaves, reaches_zero, given_by, kept_or, met, seen, look, is_end, step_in, step_from}
use Rattle.chain.specs.Walk.{chain_limit, no_coverage, onward, returns, advance, follow, walk_from, is_zero, to_zero}
use Rattle.chain.proofs.Walks.{zero_walk}

-- a segment has entered
abbrev pub is_framed : Framed → Bool
is_framed Nothing = false
is_framed (One f) = true
is_framed Mixed = true

with_framed : (f : ℤ) (b : Framed) → is_framed (joined_with f b) ≡ true
with_framed f Nothing = refl
with_framed f (One g) = go (same_z f g)
  where
    go : (b : Bool) → is_framed (cond b (One f) Mixed) ≡ true
    go true = refl
    go false = refl
with_framed f Mixed = refl

pub joined_left : (a b : Framed) → is_framed a ≡ true → is_framed (joined a b) ≡ true
joined_left Nothing b h = absurd (false≢true h)
joined_left (One f) b h = with_framed f b
joined_left Mixed b h = refl

pub joined_right : (a b : Framed) → is_framed b ≡ true → is_framed (joined a b) ≡ true
joined_right Nothing b h = h
joined_right (One f) b h = with_framed f b
joined_right Mixed b h = refl

-- what a scan has met is in a frame
abbrev framed_step : Step → Bool
framed_step Blocked = true
framed_step (Kept hop) = is_framed hop.given.frame
framed_step (Zero x) = is_framed x.frame
framed_step (Refused r) = true

module _ (ev : Evaluation) (segs : List Segment) where
  met_framed : (kept : Step) (s : Segment) (x : Valued) → framed_step kept ≡ true → framed_step (met kept s (given_by s x)) ≡ true
  unfolding met
  met_framed kept s x h = go (reaches_zero s) kept h
    where
      go : (b : Bool) (k : Step) → framed_step k ≡ true → framed_step (cond b (Zero (given_by s x)) (kept_or k (Kept (record { center = s.center; given = given_by s x })))) ≡ true
      go true k e = refl
      go false Blocked e = refl
      go false (Kept hop) e = e
      go false (Zero y) e = e
      go false (Refused r) e = refl

  look_framed : (leg : Leg) (kept : Step) (s : Segment) (i : ℕ) → framed_step kept ≡ true → framed_step (look ev leg kept s i) ≡ true
  unfolding look
  look_framed leg kept s i h = go (leaves s leg) (ev s i leg.et)
    where
      go : (b : Bool) (e : Result Valued Refusal) → framed_step (cond b (seen kept s e) kept) ≡ true
      go true (Ok x) = met_framed kept s x h
      go true (Err r) = refl
      go false e = h

  step_framed : (leg : Leg) (kept : Step) (i r : ℕ) → framed_step kept ≡ true → framed_step (step_in ev segs leg kept i r) ≡ true
  unfolding step_in
  step_framed leg kept i zero h = h
  step_framed leg kept i (suc r) h =
      let next = look_framed leg kept (seg segs i) i h in
      go (is_end (look ev leg kept (seg segs i) i)) next (step_framed leg (look ev leg kept (seg segs i) i) (suc i) r next)
    where
      go : (b : Bool) → framed_step (look ev leg kept (seg segs i) i) ≡ true → framed_step (step_in ev segs leg (look ev leg kept (seg segs i) i) (suc i) r) ≡ true
          → framed_step (cond b (look ev leg kept (seg segs i) i) (step_in ev segs leg (look ev leg kept (seg segs i) i) (suc i) r)) ≡ true
      go true p q = p
      go false p q = q

  -- what a walk ends with
  abbrev framed_end : Result Given Refusal → Bool
  framed_end (Ok g) = is_framed g.frame
  framed_end (Err r) = true

  walk_framed : (n : ℕ) (leg : Leg) (left : ℕ) → framed_end (walk_from ev segs n leg left) ≡ true
  unfolding walk_from step_from
  walk_framed n leg zero = refl
  walk_framed n leg (suc left) = go (λ on. walk_framed n on left) (step_from ev segs n leg) (step_framed leg Blocked 0 n refl)
    where
      go : ((on : Leg) → framed_end (walk_from ev segs n on left) ≡ true) → (step : Step) → framed_step step ≡ true
          → framed_end (follow (λ on. walk_from ev segs n on left) (advance leg step)) ≡ true
      go ih Blocked h = refl
      go ih (Kept hop) h = back (returns leg hop)
        where
          back : (t : Bool) → framed_end (follow (λ on. walk_from ev segs n on left) (cond t (Ended (no_coverage leg.start)) (Onward (onward leg hop)))) ≡ true
          back true = refl
          back false = ih (onward leg hop)
      go ih (Zero x) h = joined_right leg.total.frame x.frame h
      go ih (Refused r) h = refl

  -- a walk from another body than 0 that ends with a state
  pub zero_framed : (n : ℕ) (leg : Leg) (g : Given) → is_zero leg ≡ false → to_zero ev segs n leg ≡ Ok g → is_framed g.frame ≡ true
  zero_framed n leg g z h = ap framed_end (sym h ∙ zero_walk ev segs n leg z) ∙ walk_framed n leg chain_limit
