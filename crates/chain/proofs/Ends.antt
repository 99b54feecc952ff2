-- When a walk is stuck; which segment refuses one is in `Failing`.
--     stuck_where                  a walk that is stuck at a body ends in 11 for it
--     blocked_where, blocked_only  a step is blocked exactly where no segment leaves the body
-- Assumes nothing.
use mathlib.Core.Path.{◌≡◌, refl, sym, ap, ◌∙◌}
use mathlib.Core.Logic.{⊎_elim}
use mathlib.Core.Bool.{Bool, true, false, cond, ◌||◌, true≢false}
use mathlib.Core.List.{List}
use Prim.Native.Nat.{ℕ, zero, suc, ◌+◌, ◌≤◌, ◌<◌}
use native.Mathlib.Nat.{eq-or-lt_of_le}
use native.Mathlib.Omega.{arith}
use lib.IntN.{ℤ}
use Rattle.bits.proofs.Tests.{by_test_lem}
use Rattle.frame.specs.declared.Given.{Given}
use Rattle.segment.specs.declared.Segment.{Segment}
use Rattle.std.proofs.Common.{Result, Ok, Err}
use Rattle.refusal.specs.declared.Refusal.{Refusal}
use Rattle.segment.specs.declared.Valued.{Valued}
use Rattle.table.specs.Segments.{seg}
use Rattle.chain.specs.declared.Leg.{Leg}
use Rattle.chain.specs.declared.Step.{Step}
use Rattle.chain.specs.declared.Step.TheVariants.{Blocked, Kept, Zero, Refused}
use Rattle.chain.specs.declared.Next.TheVariants.{Ended, Onward}
use Rattle.chain.specs.Step.{Evaluation, leaves, reaches_zero, kept_or, met, given_by, seen, look, is_end, step_in, step_from}
use Rattle.chain.specs.Walk.{no_coverage, onward, returns, advance, follow, walk_from}
use Rattle.chain.specs.When.{by_test, stuck_after, Stuck}

-- two constructors are never equal
pub clash : {X : Type 0} → ◌≡◌ {A = ℕ} 0 1 → X
clash z = absurd (let y = z in omega arith)

-- ---- whatever the evaluation, a walk that is stuck ends in 11
module _ (ev : Evaluation) (segs : List Segment) (n : ℕ) where
  pub stuck_where : (leg : Leg) (left : ℕ) (b : ℤ) → Stuck ev segs n leg left b → walk_from ev segs n leg left ≡ no_coverage b
  unfolding walk_from Stuck
  stuck_where leg zero b h = ap no_coverage h
  stuck_where leg (suc left) b h = go (step_from ev segs n leg) (λ on. stuck_where on left b) h
    where
      go : (step : Step) → ((on : Leg) → Stuck ev segs n on left b → walk_from ev segs n on left ≡ no_coverage b)
          → stuck_after leg b (λ on. Stuck ev segs n on left b) step → follow (λ on. walk_from ev segs n on left) (advance leg step) ≡ no_coverage b
      go Blocked ih e = ap no_coverage e
      go (Kept hop) ih e = back (returns leg hop) e
        where
          back : (t : Bool) → by_test t (leg.start ≡ b) (Stuck ev segs n (onward leg hop) left b)
              → follow (λ on. walk_from ev segs n on left) (cond t (Ended (no_coverage leg.start)) (Onward (onward leg hop))) ≡ no_coverage b
          back true e = ap no_coverage e
          back false e = ih (onward leg hop) e
      go (Zero x) ih e = absurd e
      go (Refused y) ih e = absurd e

-- ---- a step is blocked exactly where no segment leaves the body
abbrev some : Step → Bool
some Blocked = false
some (Kept hop) = true
some (Zero x) = true
some (Refused r) = true

met_some : (kept : Step) (s : Segment) (x : Given) → some (met kept s x) ≡ true
unfolding met
met_some kept s x = go (reaches_zero s) kept
  where
    go : (b : Bool) (k : Step) → some (cond b (Zero x) (kept_or k (Kept (record { center = s.center; given = x })))) ≡ true
    go true k = refl
    go false Blocked = refl
    go false (Kept hop) = refl
    go false (Zero y) = refl
    go false (Refused y) = refl

module _ (ev : Evaluation) (segs : List Segment) (leg : Leg) where
  look_some : (b : Bool) (kept : Step) (i : ℕ) → leaves (seg segs i) leg ≡ b → (b || some kept) ≡ true → some (look ev leg kept (seg segs i) i) ≡ true
  unfolding look
  look_some b kept i l h = ap (λ (t : Bool). some (cond t (seen kept (seg segs i) (ev (seg segs i) i leg.et)) kept)) l ∙ go b (ev (seg segs i) i leg.et) h
    where
      go : (t : Bool) (e : Result Valued Refusal) → (t || some kept) ≡ true → some (cond t (seen kept (seg segs i) e) kept) ≡ true
      go true (Ok x) p = met_some kept (seg segs i) (given_by (seg segs i) x)
      go true (Err r) p = refl
      go false e p = p

  step_some : (kept : Step) (i r : ℕ) → some kept ≡ true → some (step_in ev segs leg kept i r) ≡ true
  unfolding step_in
  step_some kept i zero h = h
  step_some kept i (suc r) h =
      let next = by_test_lem (leaves (seg segs i) leg) (λ e. look_some true kept i e refl) (λ e. look_some false kept i e h) in
      go (is_end (look ev leg kept (seg segs i) i)) next (step_some (look ev leg kept (seg segs i) i) (suc i) r next)
    where
      go : (b : Bool) → some (look ev leg kept (seg segs i) i) ≡ true → some (step_in ev segs leg (look ev leg kept (seg segs i) i) (suc i) r) ≡ true
          → some (cond b (look ev leg kept (seg segs i) i) (step_in ev segs leg (look ev leg kept (seg segs i) i) (suc i) r)) ≡ true
      go true p q = p
      go false p q = q

  -- a turn of a scan that has met nothing
  step_past : (i r : ℕ) → leaves (seg segs i) leg ≡ false → step_in ev segs leg Blocked i (suc r) ≡ step_in ev segs leg Blocked (suc i) r
  unfolding step_in look
  step_past i r l =
      ap
      (λ (b : Bool).
      let next = cond b (seen Blocked (seg segs i) (ev (seg segs i) i leg.et)) Blocked in
      cond (is_end next) next (step_in ev segs leg next (suc i) r)) l

  step_stop : (i r : ℕ) → leaves (seg segs i) leg ≡ true → some (step_in ev segs leg Blocked i (suc r)) ≡ true
  unfolding step_in
  step_stop i r l =
      let next = look_some true Blocked i l refl in
      go (is_end (look ev leg Blocked (seg segs i) i)) next (step_some (look ev leg Blocked (seg segs i) i) (suc i) r next)
    where
      go : (b : Bool) → some (look ev leg Blocked (seg segs i) i) ≡ true → some (step_in ev segs leg (look ev leg Blocked (seg segs i) i) (suc i) r) ≡ true
          → some (cond b (look ev leg Blocked (seg segs i) i) (step_in ev segs leg (look ev leg Blocked (seg segs i) i) (suc i) r)) ≡ true
      go true p q = p
      go false p q = q

  none_left : (i r : ℕ) → step_in ev segs leg Blocked i r ≡ Blocked → (j : ℕ) → i ≤ j → j < i + r → leaves (seg segs j) leg ≡ false
  none_left i zero h j le lt = absurd (let x = le in let y = lt in omega arith)
  none_left i (suc r) h j le lt =
      by_test_lem (leaves (seg segs i) leg) (λ l. absurd (true≢false (sym (step_stop i r l) ∙ ap some h)))
      (λ l.
      ⊎_elim (λ (e : i ≡ j). ap (λ (x : ℕ). leaves (seg segs x) leg) (sym e) ∙ l)
      (λ g. none_left (suc i) r (sym (step_past i r l) ∙ h) j g (omega arith)) (eq-or-lt_of_le le))

  all_past : (i r : ℕ) → ((j : ℕ) → i ≤ j → j < i + r → leaves (seg segs j) leg ≡ false) → step_in ev segs leg Blocked i r ≡ Blocked
  unfolding step_in
  all_past i zero f = refl
  all_past i (suc r) f =
      step_past i r (f i (omega arith) (omega arith)) ∙ all_past (suc i) r (λ j le lt. f j (omega arith) (omega arith))

  pub blocked_only : (n : ℕ) → step_from ev segs n leg ≡ Blocked → (j : ℕ) → j < n → leaves (seg segs j) leg ≡ false
  unfolding step_from
  blocked_only n h j lt = none_left 0 n h j (omega arith) (omega arith)

  pub blocked_where : (n : ℕ) → ((j : ℕ) → j < n → leaves (seg segs j) leg ≡ false) → step_from ev segs n leg ≡ Blocked
  unfolding step_from
  blocked_where n f = all_past 0 n (λ j le lt. f j (omega arith))
