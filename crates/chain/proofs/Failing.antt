-- Which segment a walk's refusal comes from: a walk ends in a refusal exactly where it is stuck, and the refusal is 11, or where a segment that it
-- evaluates is refused so.
--     failed_where     a walk that is refused by a segment ends in that refusal
--     walk_why         a walk that ends in a refusal is refused by a segment, or is stuck
--     zero_why         the same of a walk to body 0
--     failed_given     the segment is of the table, and is evaluated to that refusal
-- Assumes nothing.
use Prim.Native.Nat.{ℕ, zero, suc, ◌+◌, ◌≤◌, ◌<◌}
use mathlib.Core.Path.{◌≡◌, refl, sym, ap, ◌∙◌, subst}
use mathlib.Core.Bool.{Bool, true, false, cond, true≢false}
use mathlib.Core.Logic.{◌⊎◌, inl, inr, ⊎_elim}
use mathlib.Core.List.{List}
use native.Mathlib.Nat.{eq-or-lt_of_le}
use native.Mathlib.Omega.{arith}
use lib.IntN.{ℤ}
use Rattle.bits.proofs.Tests.{by_test_lem}
use Rattle.frame.specs.declared.Given.{Given}
use Rattle.refusal.specs.declared.Refusal.{Refusal}
use Rattle.refusal.specs.declared.Refusal.TheVariants.{NoCoverage}
use Rattle.segment.specs.declared.Segment.{Segment}
use Rattle.segment.specs.declared.Valued.{Valued}
use Rattle.std.proofs.Common.{Result, Ok, Err}
use Rattle.table.specs.Segments.{seg}
use Rattle.chain.specs.declared.Leg.{Leg}
use Rattle.chain.specs.declared.Hop.{Hop}
use Rattle.chain.specs.declared.Step.{Step}
use Rattle.chain.specs.declared.Step.TheVariants.{Blocked, Kept, Zero, Refused}
use Rattle.chain.specs.declared.Next.TheVariants.{Ended, Onward}
use Rattle.chain.specs.Step.{Evaluation, leaves, reaches_zero, given_by, kept_or, look, is_end, step_in, step_from}
use Rattle.chain.specs.Walk.{chain_limit, no_coverage, onward, returns, advance, follow, walk_from, is_zero, to_zero}
use Rattle.chain.specs.When.{by_test, stuck_after, Stuck, Past, RefusedAt, Failed}
use Rattle.chain.proofs.Ends.{clash}
use Rattle.chain.proofs.Walks.{zero_home, zero_walk}
use Rattle.chain.proofs.Steps.{met_home, met_else, look_past, look_seen}

refusal_eq : (r s : Refusal) → ◌≡◌ {A = Result Given Refusal} (Err r) (Err s) → r ≡ s
refusal_eq r s h = cc

pub not_given : {X : Type 0} (x : Given) (r : Refusal) → ◌≡◌ {A = Result Given Refusal} (Ok x) (Err r) → X
not_given x r h = clash (cc)

not_state : {X : Type 0} (x : Valued) (r : Refusal) → ◌≡◌ {A = Result Valued Refusal} (Ok x) (Err r) → X
not_state x r h = clash (cc)

step_refusal : (r s : Refusal) → ◌≡◌ {A = Step} (Refused r) (Refused s) → r ≡ s
step_refusal r s h = cc

not_home : {X : Type 0} (x : Given) (r : Refusal) → ◌≡◌ {A = Step} (Zero x) (Refused r) → X
not_home x r h = clash (cc)

kept_on : (kept : Step) (hop : Hop) → is_end kept ≡ false → is_end (kept_or kept (Kept hop)) ≡ false
kept_on Blocked hop e = refl
kept_on (Kept x) hop e = refl
kept_on (Zero x) hop e = e
kept_on (Refused x) hop e = e

-- what holds of every number below i, and of i
pub further : (P : ℕ → Type 0) (i : ℕ) → ((j : ℕ) → j < i → P j) → P i → (j : ℕ) → j < suc i → P j
further P i before here j l =
    ⊎_elim (λ (e : suc j ≡ suc i). let x : i ≡ j = omega arith in subst P x here) (λ g. before j (omega arith)) (eq-or-lt_of_le l)

-- ---- a step: its scan is refused exactly where a segment refuses it
module _ (ev : Evaluation) (segs : List Segment) (leg : Leg) where
  -- what the next segment does to the scan
  data Look (kept : Step) (i : ℕ) : Type 0 where
    on : (next : Step) → look ev leg kept (seg segs i) i ≡ next → is_end next ≡ false → Past ev segs leg i → Look kept i
    home : (x : Given) → look ev leg kept (seg segs i) i ≡ Zero x → leaves (seg segs i) leg ≡ true → reaches_zero (seg segs i) ≡ true → Look kept i
    refused : (r : Refusal) → look ev leg kept (seg segs i) i ≡ Refused r → leaves (seg segs i) leg ≡ true → ev (seg segs i) i leg.et ≡ Err r → Look kept i

  looks : (kept : Step) (i : ℕ) → is_end kept ≡ false → Look kept i
  looks kept i e =
      by_test_lem (leaves (seg segs i) leg) (λ l. go (ev (seg segs i) i leg.et) refl l)
      (λ l. on kept (sym (look_past ev leg kept (seg segs i) i l)) e (λ t. absurd (true≢false (sym t ∙ l))))
    where
      go : (v : Result Valued Refusal) → ev (seg segs i) i leg.et ≡ v → leaves (seg segs i) leg ≡ true → Look kept i
      go (Err r) h l = refused r (sym (look_seen ev leg kept (seg segs i) i (Err r) l h)) l h
      go (Ok x) h l =
          let was = look_seen ev leg kept (seg segs i) i (Ok x) l h in
          by_test_lem (reaches_zero (seg segs i)) (λ g. home (given_by (seg segs i) x) (sym was ∙ sym (met_home kept (seg segs i) (given_by (seg segs i) x) g)) l g)
          (λ g.
          let hop : Hop = record { center = (seg segs i).center; given = given_by (seg segs i) x } in
          on (kept_or kept (Kept hop)) (sym was ∙ sym (met_else kept (seg segs i) (given_by (seg segs i) x) kept hop g refl refl refl)) (kept_on kept hop e) (λ t. (g, (x, h))))

  -- a turn of the scan, by what the segment does
  turn : (kept next : Step) (i k : ℕ) (b : Bool) → look ev leg kept (seg segs i) i ≡ next → is_end next ≡ b
      → step_in ev segs leg kept i (suc k) ≡ cond b next (step_in ev segs leg next (suc i) k)
  unfolding step_in
  turn kept next i k b e h =
      ap (λ (x : Step). cond (is_end x) x (step_in ev segs leg x (suc i) k)) e ∙ ap (λ (t : Bool). cond t next (step_in ev segs leg next (suc i) k)) h

  step_why : (n : ℕ) (r : Refusal) (kept : Step) (i k : ℕ) → i + k ≤ n → is_end kept ≡ false → ((j : ℕ) → j < i → Past ev segs leg j)
      → step_in ev segs leg kept i k ≡ Refused r → (j : ℕ) × RefusedAt ev segs n leg j r
  unfolding step_in
  step_why n r kept i zero le e before h = absurd (true≢false (sym (ap is_end h) ∙ e))
  step_why n r kept i (suc k) le e before h = go (looks kept i e) (λ next x. step_why n r next (suc i) k (omega arith) x)
    where
      go : Look kept i
          → ((next : Step) → is_end next ≡ false → ((j : ℕ) → j < suc i → Past ev segs leg j) → step_in ev segs leg next (suc i) k ≡ Refused r → (j : ℕ) × RefusedAt ev segs n leg j r)
          → (j : ℕ) × RefusedAt ev segs n leg j r
      go (on next l x p) ih = ih next x (further (Past ev segs leg) i before p) (sym (turn kept next i k false l x) ∙ h)
      go (home x l t g) ih = not_home x r (sym (turn kept (Zero x) i k true l refl) ∙ h)
      go (refused y l t v) ih =
          let same = step_refusal y r (sym (turn kept (Refused y) i k true l refl) ∙ h) in
          (i, record { below = omega arith; leaving = t; gives = v ∙ ap Err same; past = before })

  step_where : (n i : ℕ) (r : Refusal) → RefusedAt ev segs n leg i r → (kept : Step) (a k : ℕ) → a ≤ i → i < a + k → is_end kept ≡ false
      → step_in ev segs leg kept a k ≡ Refused r
  step_where n i r w kept a zero le lt e = absurd (let x = le in let y = lt in omega arith)
  step_where n i r w kept a (suc k) le lt e =
      ⊎_elim (λ (x : a ≡ i). here x) (λ l. go l (looks kept a e) (λ next. step_where n i r w next (suc a) k l (omega arith))) (eq-or-lt_of_le le)
    where
      here : a ≡ i → step_in ev segs leg kept a (suc k) ≡ Refused r
      here x =
          ap (λ (y : ℕ). step_in ev segs leg kept y (suc k)) x
          ∙ turn kept (Refused r) i k true (sym (look_seen ev leg kept (seg segs i) i (Err r) w.leaving w.gives)) refl

      go : a < i → Look kept a → ((next : Step) → is_end next ≡ false → step_in ev segs leg next (suc a) k ≡ Refused r) → step_in ev segs leg kept a (suc k) ≡ Refused r
      go l (on next u x p) ih = turn kept next a k false u x ∙ ih next x
      go l (home x u t g) ih = absurd (true≢false (sym g ∙ (w.past a l t).0))
      go l (refused y u t v) ih = let s = (w.past a l t).1 in not_state s.0 y (sym s.1 ∙ v)

-- ---- a walk
module _ (ev : Evaluation) (segs : List Segment) (n : ℕ) where
  refused_at : (leg : Leg) (r : Refusal) → step_from ev segs n leg ≡ Refused r → (i : ℕ) × RefusedAt ev segs n leg i r
  unfolding step_from
  refused_at leg r h = step_why ev segs leg n r Blocked 0 n (omega arith) refl (λ j l. absurd (let x = l in omega arith)) h

  at_refused : (leg : Leg) (i : ℕ) (r : Refusal) → RefusedAt ev segs n leg i r → step_from ev segs n leg ≡ Refused r
  unfolding step_from
  at_refused leg i r w = let b = w.below in step_where ev segs leg n i r w Blocked 0 n (omega arith) (omega arith) refl

  pub failed_where : (leg : Leg) (left i : ℕ) (r : Refusal) → Failed ev segs n leg left i r → walk_from ev segs n leg left ≡ Err r
  unfolding walk_from Failed
  failed_where leg zero i r w = absurd w
  failed_where leg (suc left) i r w =
      ⊎_elim (λ x. ap (λ (s : Step). follow (λ on. walk_from ev segs n on left) (advance leg s)) (at_refused leg i r x))
      (λ x.
      ap (λ (s : Step). follow (λ on. walk_from ev segs n on left) (advance leg s)) x.1
      ∙ ap (λ (b : Bool). follow (λ on. walk_from ev segs n on left) (cond b (Ended (no_coverage leg.start)) (Onward (onward leg x.0)))) x.2
      ∙ failed_where (onward leg x.0) left i r x.3) w

  -- why a walk is refused
  abbrev pub Ends : Leg → ℕ → Refusal → Type 0
  Ends leg left r = ((i : ℕ) × Failed ev segs n leg left i r) ⊎ ((b : ℤ) × Stuck ev segs n leg left b × (NoCoverage b ≡ r))

  pub walk_why : (leg : Leg) (left : ℕ) (r : Refusal) → walk_from ev segs n leg left ≡ Err r → Ends leg left r
  unfolding walk_from Failed Stuck
  walk_why leg zero r h = inr (leg.start, refl, refusal_eq _ r h)
  walk_why leg (suc left) r h = go (λ on. walk_why on left r) (step_from ev segs n leg) refl h
    where
      go : ((on : Leg) → walk_from ev segs n on left ≡ Err r → Ends on left r)
          → (step : Step) → step_from ev segs n leg ≡ step → follow (λ on. walk_from ev segs n on left) (advance leg step) ≡ Err r
          → ((i : ℕ) × Failed ev segs n leg (suc left) i r) ⊎ ((b : ℤ) × stuck_after leg b (λ on. Stuck ev segs n on left b) step × (NoCoverage b ≡ r))
      go ih Blocked e x = inr (leg.body, refl, refusal_eq _ r x)
      go ih (Kept hop) e x = back (returns leg hop) refl x
        where
          back : (t : Bool) → returns leg hop ≡ t
              → follow (λ on. walk_from ev segs n on left) (cond t (Ended (no_coverage leg.start)) (Onward (onward leg hop))) ≡ Err r
              → ((i : ℕ) × Failed ev segs n leg (suc left) i r) ⊎ ((b : ℤ) × by_test t (leg.start ≡ b) (Stuck ev segs n (onward leg hop) left b) × (NoCoverage b ≡ r))
          back true f y = inr (leg.start, refl, refusal_eq _ r y)
          back false f y =
              ⊎_elim (λ w. inl (w.0, inr (hop, e, f, w.1))) (λ w. inr w) (ih (onward leg hop) y)
      go ih (Zero s) e x = not_given _ r x
      go ih (Refused y) e x = let w = refused_at leg r (e ∙ ap Refused (refusal_eq y r x)) in inl (w.0, inl w.1)

  -- body 0 takes no step
  pub zero_why : (leg : Leg) (r : Refusal) → to_zero ev segs n leg ≡ Err r → (is_zero leg ≡ false) × Ends leg chain_limit r
  zero_why leg r h =
      by_test_lem (is_zero leg) (λ e. not_given _ r (sym (zero_home ev segs n leg e) ∙ h))
      (λ e. (e, walk_why leg chain_limit r (sym (zero_walk ev segs n leg e) ∙ h)))

  pub failed_given : (leg : Leg) (left i : ℕ) (r : Refusal) → Failed ev segs n leg left i r → (i < n) × (ev (seg segs i) i leg.et ≡ Err r)
  unfolding Failed
  failed_given leg zero i r w = absurd w
  failed_given leg (suc left) i r w = ⊎_elim (λ x. (x.below, x.gives)) (λ x. failed_given (onward leg x.0) left i r x.3) w
