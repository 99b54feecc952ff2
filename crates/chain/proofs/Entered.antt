-- WHETHER A WALK WAS STRETCHED: its sum says yes exactly where one of the segments that entered it does.
--     step_taken     a step that goes on takes a segment, and gives what that gives; taken-one: and no other
--     word_only      a walk that says yes started so, or a stretched segment entered
--     word_where     where a stretched segment entered, or the walk started so, it says yes
--     zero_only, zero_where   the same of a walk to body 0
-- Assumes nothing.
use Prim.Native.Nat.{ℕ, zero, suc, ◌+◌, ◌≤◌, ◌<◌}
use mathlib.Core.Path.{◌≡◌, refl, sym, ap, ◌∙◌, subst}
use mathlib.Core.Bool.{Bool, true, false, cond, ◌||◌, true≢false, false≢true}
use mathlib.Core.Logic.{◌⊎◌, inl, inr, ⊎_elim}
use mathlib.Core.List.{List}
use native.Mathlib.Omega.{arith}
use lib.Dec.{ltb}
use borrow.Author.Tests.{ltb-true, ltb-false}
use Rattle.bits.proofs.Tests.{by_test_lem, or_left, or_right}
use Rattle.frame.specs.declared.Given.{Given}
use Rattle.segment.specs.declared.Segment.{Segment}
use Rattle.segment.specs.declared.Valued.{Valued}
use Rattle.std.proofs.Common.{Result, Ok, Err}
use Rattle.refusal.specs.declared.Refusal.{Refusal}
use Rattle.table.specs.Segments.{seg}
use Rattle.chain.specs.declared.Leg.{Leg}
use Rattle.chain.specs.declared.Hop.{Hop}
use Rattle.chain.specs.declared.Step.{Step}
use Rattle.chain.specs.declared.Step.TheVariants.{Blocked, Kept, Zero, Refused}
use Rattle.chain.specs.declared.Next.TheVariants.{Ended, Onward}
use Rattle.chain.specs.Step.{Evaluation, leaves, reaches_zero, given_by, kept_or, look, is_end, step_in, step_from}
use Rattle.chain.specs.Walk.{chain_limit, no_coverage, onward, returns, advance, follow, walk_from, is_zero, to_zero}
use Rattle.chain.specs.When.{Past}
use Rattle.chain.specs.Entered.{Home, First, Taken, Entered, Stretches}
use Rattle.chain.proofs.Ends.{clash}
use Rattle.chain.proofs.Failing.{further, not_given}
use Rattle.chain.proofs.Steps.{met_home, met_else, look_past, look_seen}
use Rattle.chain.proofs.Walks.{zero_home, zero_walk}

-- one of two that is true
pub or_one : (a b : Bool) → (a || b) ≡ true → (a ≡ true) ⊎ (b ≡ true)
or_one true b h = inl refl
or_one false b h = inr h

-- two numbers, neither of which is below the other
one_number : (a b : ℕ) → (a < b → ⊥) → (b < a → ⊥) → a ≡ b
one_number a b p q =
    by_test_lem (ltb a b) (λ t. absurd (p (ltb-true a b t)))
    (λ t. by_test_lem (ltb b a) (λ u. absurd (q (ltb-true b a u))) (λ u. let x = ltb-false a b t in let y = ltb-false b a u in omega arith))

one_value : (v w : Valued) → ◌≡◌ {A = Result Valued Refusal} (Ok v) (Ok w) → v ≡ w
one_value v w h = cc

one_given : (g h : Given) → ◌≡◌ {A = Result Given Refusal} (Ok g) (Ok h) → g ≡ h
one_given g h e = cc

not_kept : {X : Type 0} (x : Given) (hop : Hop) → ◌≡◌ {A = Step} (Zero x) (Kept hop) → X
not_kept x hop h = clash (cc)

one_hop : (a b : Hop) → ◌≡◌ {A = Step} (Kept a) (Kept b) → a ≡ b
one_hop a b h = cc

-- ---- what a scan has met, of the segments before number i
module _ (ev : Evaluation) (segs : List Segment) (leg : Leg) where
  -- segment a below i leaves the body, and gives v, which is g
  record Met (i a : ℕ) (v : Valued) (g : Given) : Type 0 where
    below : a < i
    leaving : leaves (seg segs a) leg ≡ true
    gives : ev (seg segs a) a leg.et ≡ Ok v
    given : g ≡ given_by (seg segs a) v

  unfoldable Scanned : Step → ℕ → Type 0
  Scanned Blocked i = (j : ℕ) → j < i → leaves (seg segs j) leg ≡ false
  Scanned (Kept hop) i = (a : ℕ) × (v : Valued) × Met i a v hop.given × First ev segs i leg a
  Scanned (Zero x) i = (a : ℕ) × (v : Valued) × Met i a v x × Home ev segs leg a
  Scanned (Refused r) i = Unit {0}

  -- a segment that doesn't leave the body is gone past
  past_other : (i : ℕ) → leaves (seg segs i) leg ≡ false → Past ev segs leg i
  past_other i l t = absurd (true≢false (sym t ∙ l))

  wider : {a : ℕ} {v : Valued} {g : Given} (i n : ℕ) → i ≤ n → Met i a v g → Met n a v g
  wider i n l m = let b = m.below in record { below = omega arith; leaving = m.leaving; gives = m.gives; given = m.given }

  -- every segment before number i is gone past, where the scan has not ended
  all_past : (kept : Step) (i : ℕ) → is_end kept ≡ false → Scanned kept i → (j : ℕ) → j < i → Past ev segs leg j
  unfolding Scanned
  all_past Blocked i e s = λ j l. past_other j (s j l)
  all_past (Kept hop) i e s = s.3.1
  all_past (Zero x) i e s = absurd (true≢false e)
  all_past (Refused r) i e s = absurd (true≢false e)

  -- one segment more, which doesn't leave the body
  other_more : (kept : Step) (i : ℕ) → leaves (seg segs i) leg ≡ false → Scanned kept i → Scanned kept (suc i)
  unfolding Scanned
  other_more Blocked i l s = further (λ (j : ℕ). leaves (seg segs j) leg ≡ false) i s l
  other_more (Kept hop) i l s = (s.0, s.1, wider i (suc i) (omega arith) s.2, (s.3.0, further (Past ev segs leg) i s.3.1 (past_other i l)))
  other_more (Zero x) i l s = (s.0, s.1, wider i (suc i) (omega arith) s.2, s.3)
  other_more (Refused r) i l s = tt

  -- one more, which gives v and doesn't go to body 0
  kept_more : (kept : Step) (i : ℕ) (v : Valued) → leaves (seg segs i) leg ≡ true → ev (seg segs i) i leg.et ≡ Ok v → reaches_zero (seg segs i) ≡ false
      → is_end kept ≡ false → Scanned kept i → Scanned (kept_or kept (Kept (record { center = (seg segs i).center; given = given_by (seg segs i) v }))) (suc i)
  unfolding Scanned
  kept_more Blocked i v l h z e s =
      (i, v, record { below = omega arith; leaving = l; gives = h; given = refl }, (s, further (Past ev segs leg) i (λ j b. past_other j (s j b)) (λ t. (z, (v, h)))))
  kept_more (Kept hop) i v l h z e s = (s.0, s.1, wider i (suc i) (omega arith) s.2, (s.3.0, further (Past ev segs leg) i s.3.1 (λ t. (z, (v, h)))))
  kept_more (Zero x) i v l h z e s = absurd (true≢false e)
  kept_more (Refused r) i v l h z e s = absurd (true≢false e)

  look_scanned : (kept : Step) (i : ℕ) → is_end kept ≡ false → Scanned kept i → Scanned (look ev leg kept (seg segs i) i) (suc i)
  unfolding Scanned
  look_scanned kept i e s =
      by_test_lem (leaves (seg segs i) leg) (λ l. seen_as (ev (seg segs i) i leg.et) refl l) (λ l. is (look_past ev leg kept (seg segs i) i l) (other_more kept i l s))
    where
      is : {x : Step} → x ≡ look ev leg kept (seg segs i) i → Scanned x (suc i) → Scanned (look ev leg kept (seg segs i) i) (suc i)
      is p z = subst (λ (x : Step). Scanned x (suc i)) p z

      seen_as : (y : Result Valued Refusal) → ev (seg segs i) i leg.et ≡ y → leaves (seg segs i) leg ≡ true → Scanned (look ev leg kept (seg segs i) i) (suc i)
      seen_as (Err r) h l = is (look_seen ev leg kept (seg segs i) i (Err r) l h) tt
      seen_as (Ok v) h l =
          let was = look_seen ev leg kept (seg segs i) i (Ok v) l h in
          by_test_lem (reaches_zero (seg segs i))
          (λ g. is (met_home kept (seg segs i) (given_by (seg segs i) v) g ∙ was) (i, v, record { below = omega arith; leaving = l; gives = h; given = refl }, (g, all_past kept i e s)))
          (λ g. is (met_else kept (seg segs i) (given_by (seg segs i) v) kept (record { center = (seg segs i).center; given = given_by (seg segs i) v }) g refl refl refl ∙ was) (kept_more kept i v l h g e s))

  -- a scan that has ended looks at no more
  ended_more : (kept : Step) (i n : ℕ) → i ≤ n → is_end kept ≡ true → Scanned kept i → Scanned kept n
  unfolding Scanned
  ended_more Blocked i n l e s = absurd (false≢true e)
  ended_more (Kept hop) i n l e s = absurd (false≢true e)
  ended_more (Zero x) i n l e s = (s.0, s.1, wider i n l s.2, s.3)
  ended_more (Refused r) i n l e s = tt

  scanned : (n : ℕ) (kept : Step) (i r : ℕ) → i + r ≡ n → is_end kept ≡ false → Scanned kept i → Scanned (step_in ev segs leg kept i r) n
  unfolding step_in
  scanned n kept i zero t e s = subst (Scanned kept) (let x : i ≡ n = omega arith in x) s
  scanned n kept i (suc r) t e s = go (is_end next) refl (λ x. scanned n next (suc i) r (omega arith) x (look_scanned kept i e s))
    where
      next : Step
      next = look ev leg kept (seg segs i) i

      go : (b : Bool) → is_end next ≡ b → (is_end next ≡ false → Scanned (step_in ev segs leg next (suc i) r) n) → Scanned (cond b next (step_in ev segs leg next (suc i) r)) n
      go true x ih = ended_more next (suc i) n (omega arith) x (look_scanned kept i e s)
      go false x ih = ih x

-- ---- a step
module _ (ev : Evaluation) (segs : List Segment) (n : ℕ) (leg : Leg) where
  all_scanned : Scanned ev segs leg (step_from ev segs n leg) n
  unfolding step_from Scanned
  all_scanned = scanned ev segs leg n Blocked 0 n (omega arith) refl (λ j l. absurd (let x = l in omega arith))

  -- what a step that goes on gives
  abbrev step_gives : Step → Given → Type 0
  step_gives Blocked g = ⊥
  step_gives (Kept hop) g = hop.given ≡ g
  step_gives (Zero x) g = x ≡ g
  step_gives (Refused r) g = ⊥

  -- it is what a segment gives that it takes
  pub step_taken : (step : Step) (g : Given) → step_from ev segs n leg ≡ step → step_gives step g → (i : ℕ) × (v : Valued) × Taken ev segs n leg i v × (g ≡ given_by (seg segs i) v)
  unfolding Scanned
  step_taken step g e h = go step (subst (λ (x : Step). Scanned ev segs leg x n) e all_scanned) h
    where
      taken : {a : ℕ} {v : Valued} {x : Given} → Met ev segs leg n a v x → Home ev segs leg a ⊎ First ev segs n leg a → Taken ev segs n leg a v
      taken m c = record { below = m.below; leaving = m.leaving; gives = m.gives; chosen = c }

      go : (x : Step) → Scanned ev segs leg x n → step_gives x g → (i : ℕ) × (v : Valued) × Taken ev segs n leg i v × (g ≡ given_by (seg segs i) v)
      go Blocked s y = absurd y
      go (Kept hop) s y = (s.0, s.1, taken s.2 (inr s.3), sym y ∙ s.2.given)
      go (Zero x) s y = (s.0, s.1, taken s.2 (inl s.3), sym y ∙ s.2.given)
      go (Refused r) s y = absurd y

  -- a segment that goes to body 0 is not gone past
  not_past : (a i : ℕ) → Home ev segs leg a → leaves (seg segs a) leg ≡ true → a ≡ i → Past ev segs leg i → ⊥
  not_past a i h l e p = true≢false (sym h.0 ∙ (subst (Past ev segs leg) (sym e) p l).0)

  -- two segments that a step takes are one
  one_taken : (a i : ℕ) (v w : Valued) → Taken ev segs n leg a v → Taken ev segs n leg i w → a ≡ i
  one_taken a i v w t u = go t.chosen u.chosen
    where
      go : Home ev segs leg a ⊎ First ev segs n leg a → Home ev segs leg i ⊎ First ev segs n leg i → a ≡ i
      go (inl h) (inl k) = one_number a i (λ l. not_past a a h t.leaving refl (k.1 a l)) (λ l. not_past i i k u.leaving refl (h.1 i l))
      go (inl h) (inr k) = absurd (not_past a a h t.leaving refl (k.1 a t.below))
      go (inr h) (inl k) = absurd (not_past i i k u.leaving refl (h.1 i u.below))
      go (inr h) (inr k) = one_number a i (λ l. true≢false (sym t.leaving ∙ k.0 a l)) (λ l. true≢false (sym u.leaving ∙ h.0 i l))

  -- so what the step gives has the word of each segment that it takes
  pub taken_one : (step : Step) (g : Given) (i : ℕ) (v : Valued) → step_from ev segs n leg ≡ step → step_gives step g → Taken ev segs n leg i v → g.stretched ≡ v.stretched
  taken_one step g i v e h t =
      let s = step_taken step g e h in
      let at = one_taken s.0 i s.1 v s.2 t in
      ap (λ (x : Given). x.stretched) s.3
      ∙ ap (λ (x : Valued). x.stretched) (one_value s.1 v (sym s.2.gives ∙ ap (λ (k : ℕ). ev (seg segs k) k leg.et) at ∙ t.gives))

-- ---- a walk
module _ (ev : Evaluation) (segs : List Segment) (n : ℕ) where
  -- what a walk that ends with a state was
  data Ends (leg : Leg) (left : ℕ) (g : Given) : Type 0 where
    home : (x : Given) → step_from ev segs n leg ≡ Zero x → g.stretched ≡ (leg.total.stretched || x.stretched) → Ends leg left g
    on : (hop : Hop) → step_from ev segs n leg ≡ Kept hop → returns leg hop ≡ false → walk_from ev segs n (onward leg hop) left ≡ Ok g → Ends leg left g

  ends : (leg : Leg) (left : ℕ) (g : Given) → walk_from ev segs n leg (suc left) ≡ Ok g → Ends leg left g
  unfolding walk_from
  ends leg left g h = go (step_from ev segs n leg) refl h
    where
      go : (step : Step) → step_from ev segs n leg ≡ step → follow (λ on. walk_from ev segs n on left) (advance leg step) ≡ Ok g → Ends leg left g
      go Blocked e x = not_given g _ (sym x)
      go (Kept hop) e x = back (returns leg hop) refl x
        where
          back : (t : Bool) → returns leg hop ≡ t → follow (λ on. walk_from ev segs n on left) (cond t (Ended (no_coverage leg.start)) (Onward (onward leg hop))) ≡ Ok g → Ends leg left g
          back true f y = not_given g _ (sym y)
          back false f y = on hop e f y
      go (Zero y) e x = home y e (ap (λ (z : Given). z.stretched) (sym (one_given _ g x)))
      go (Refused r) e x = not_given g r (sym x)

  pub word_only : (leg : Leg) (left : ℕ) (g : Given) → walk_from ev segs n leg left ≡ Ok g → g.stretched ≡ true
      → (leg.total.stretched ≡ true) ⊎ Stretches ev segs n leg left
  unfolding walk_from Entered
  word_only leg zero g h w = not_given g _ (sym h)
  word_only leg (suc left) g h w = go (ends leg left g h) (λ on. word_only on left g)
    where
      taken : (step : Step) (x : Given) → step_from ev segs n leg ≡ step → step_gives ev segs n leg step x → x.stretched ≡ true → Stretches ev segs n leg (suc left)
      taken step x e y t = let s = step_taken ev segs n leg step x e y in (s.0, s.1, inl s.2, sym (ap (λ (z : Given). z.stretched) s.3) ∙ t)

      go : Ends leg left g → ((on : Leg) → walk_from ev segs n on left ≡ Ok g → g.stretched ≡ true → (on.total.stretched ≡ true) ⊎ Stretches ev segs n on left)
          → (leg.total.stretched ≡ true) ⊎ Stretches ev segs n leg (suc left)
      go (home x e t) ih = ⊎_elim (λ a. inl a) (λ b. inr (taken (Zero x) x e refl b)) (or_one leg.total.stretched x.stretched (sym t ∙ w))
      go (on hop e f y) ih =
          ⊎_elim (λ a. ⊎_elim (λ b. inl b) (λ b. inr (taken (Kept hop) hop.given e refl b)) (or_one leg.total.stretched hop.given.stretched a))
          (λ b. inr (b.0, b.1, inr (hop, e, f, b.2), b.3)) (ih (onward leg hop) y w)

  pub word_start : (leg : Leg) (left : ℕ) (g : Given) → walk_from ev segs n leg left ≡ Ok g → leg.total.stretched ≡ true → g.stretched ≡ true
  unfolding walk_from
  word_start leg zero g h w = not_given g _ (sym h)
  word_start leg (suc left) g h w = go (ends leg left g h) (λ on. word_start on left g)
    where
      go : Ends leg left g → ((on : Leg) → walk_from ev segs n on left ≡ Ok g → on.total.stretched ≡ true → g.stretched ≡ true) → g.stretched ≡ true
      go (home x e t) ih = t ∙ or_left leg.total.stretched x.stretched w
      go (on hop e f y) ih = ih (onward leg hop) y (or_left leg.total.stretched hop.given.stretched w)

  pub word_where : (leg : Leg) (left : ℕ) (g : Given) (i : ℕ) (v : Valued) → walk_from ev segs n leg left ≡ Ok g → Entered ev segs n leg left i v → v.stretched ≡ true → g.stretched ≡ true
  unfolding walk_from Entered
  word_where leg zero g i v h t w = absurd t
  word_where leg (suc left) g i v h t w = go (ends leg left g h) t (λ on. word_where on left g i v)
    where
      go : Ends leg left g → Taken ev segs n leg i v ⊎ ((hop : Hop) × (step_from ev segs n leg ≡ Kept hop) × (returns leg hop ≡ false) × Entered ev segs n (onward leg hop) left i v)
          → ((on : Leg) → walk_from ev segs n on left ≡ Ok g → Entered ev segs n on left i v → v.stretched ≡ true → g.stretched ≡ true) → g.stretched ≡ true
      go (home x e y) (inl t) ih = y ∙ or_right leg.total.stretched x.stretched (taken_one ev segs n leg (Zero x) x i v e refl t ∙ w)
      go (home x e y) (inr t) ih = not_kept x t.0 (sym e ∙ t.1)
      go (on hop e f y) (inl t) ih = word_start (onward leg hop) left g y (or_right leg.total.stretched hop.given.stretched (taken_one ev segs n leg (Kept hop) hop.given i v e refl t ∙ w))
      go (on hop e f y) (inr t) ih = ih (onward leg t.0) (subst (λ (x : Hop). walk_from ev segs n (onward leg x) left ≡ Ok g) (one_hop hop t.0 (sym e ∙ t.1)) y) t.3 w

  -- of a walk to body 0 that starts with a sum that says no: body 0 takes no step
  pub zero_only : (leg : Leg) (g : Given) → leg.total.stretched ≡ false → to_zero ev segs n leg ≡ Ok g → g.stretched ≡ true → (is_zero leg ≡ false) × Stretches ev segs n leg chain_limit
  zero_only leg g none h w =
      by_test_lem (is_zero leg) (λ z. absurd (true≢false (sym w ∙ ap (λ (x : Given). x.stretched) (one_given g leg.total (sym h ∙ zero_home ev segs n leg z)) ∙ none)))
      (λ z. (z, ⊎_elim (λ a. absurd (true≢false (sym a ∙ none))) (λ b. b) (word_only leg chain_limit g (sym (zero_walk ev segs n leg z) ∙ h) w)))

  pub zero_where : (leg : Leg) (g : Given) → to_zero ev segs n leg ≡ Ok g → (is_zero leg ≡ false) × Stretches ev segs n leg chain_limit → g.stretched ≡ true
  zero_where leg g h s = word_where leg chain_limit g s.1.0 s.1.1 (sym (zero_walk ev segs n leg s.0) ∙ h) s.1.2 s.1.3
