-- A REFUSAL THROUGH ANY INDEX, whoever wrote it: no number but 10 to 15 is given, in a frame none but these and 21, and with it stand six zeros and no segment.
--     with_other, with_zeros         a state
--     with_in_other, with_in_zeros   one in a frame
-- Through the index that an opening left a question is refused exactly as without one (`no_index` in `Asking`). Assumes nothing.
use Prim.Native.Nat.{ℕ, zero, suc, ◌≤◌}
use mathlib.Core.Path.{◌≡◌, refl, sym, ap, ◌∙◌, subst}
use mathlib.Core.Bool.{Bool, true, false, cond, true≢false}
use mathlib.Core.Logic.{◌⊎◌, inl, inr, ⊎_elim}
use mathlib.Core.List.{List, [], ◌∷◌}
use native.Mathlib.Omega.{arith}
use lib.IntN.{ℤ}
use Rattle.bits.proofs.Tests.{by_test_lem}
use Rattle.frame.specs.declared.Given.{Given}
use Rattle.frame.specs.Frame.{Matrix}
use Rattle.refusal.specs.declared.Refusal.{Refusal}
use Rattle.refusal.specs.declared.Refusal.TheVariants.{NoCoverage, TableUnfit, EpochNan}
use Rattle.refusal.specs.Numbers.{number_of}
use Rattle.segment.specs.declared.Segment.{Segment}
use Rattle.std.proofs.Common.{Option, Some, None, Result, Ok, Err}
use Rattle.std.specs.Option.{option_map}
use Rattle.std.specs.Result.{result_err}
use Rattle.segment.specs.declared.Valued.{Valued}
use Rattle.table.specs.Segments.{seg}
use Rattle.table.specs.Steps.{ready}
use Rattle.table.proofs.Early.{ready_why}
use Rattle.index.specs.Parts.{first_of, above_of, has_room}
use Rattle.chain.specs.declared.Leg.{Leg}
use Rattle.chain.specs.declared.Step.{Step}
use Rattle.chain.specs.declared.Step.TheVariants.{Blocked, Kept, Zero, Refused}
use Rattle.chain.specs.declared.Next.TheVariants.{Ended, Onward}
use Rattle.chain.specs.Step.{Evaluation, leaves, reaches_zero, given_by, kept_or, met, seen, look, is_end}
use Rattle.chain.specs.Walk.{chain_limit, no_coverage, onward, returns, advance, follow, is_zero}
use Rattle.chain.specs.When.{OwnOnly}
use Rattle.chain.proofs.Ends.{clash}
use Rattle.spk.specs.declared.Question.{Question}
use Rattle.spk.specs.Choosing.{Memory}
use Rattle.spk.specs.declared.Way.TheVariants as ways
use Rattle.spk.specs.declared.Answer.{Answer}
use Rattle.spk.specs.declared.Asked.{Asked}
use Rattle.spk.specs.When.{InNumber}
use Rattle.spk.proofs.ExactlyIn.{turned_why}
use Rattle.spk.specs.Questions.{is_same, swapped}
use Rattle.spk.specs.Answers.{refused_answer, same_answer, difference_of}
use Rattle.spk.specs.Asking.{Found, leg_from, answer_to}
use Rattle.spk.specs.Steps.{early, early_or, back_or, ahead_or}
use Rattle.spk.specs.Turning.{is_refused}
use Rattle.spk.proofs.Settling.{settled_refused, settled_state}
use Rattle.spk.proofs.Exactly.{answer_refused, settled_why, given_open, yield_why, negated_why, own_within, no_other, refused_zeros}
use Rattle.chain.specs.Visited.{step_over}
use Rattle.chain.specs.Walked.{walk_by, to_zero_by}
use Rattle.indexed.specs.Stepping.{step_by}
use Rattle.indexed.specs.Asking.{last_found, forward_found, chained_by, backward_by, asked_through, asked_with, asked_in_with}

step_eq : (r s : Refusal) → ◌≡◌ {A = Step} (Refused r) (Refused s) → r ≡ s
step_eq r s h = cc

refusal_eq : (r s : Refusal) → ◌≡◌ {A = Result Given Refusal} (Err r) (Err s) → r ≡ s
refusal_eq r s h = cc

-- ---- a step is refused by a segment that it evaluates
module _ (ev : Evaluation) (segs : List Segment) (leg : Leg) (r : Refusal) where
  -- a segment that gives a state refuses nothing
  met_open : (kept : Step) (s : Segment) (x : Given) → is_end kept ≡ false → met kept s x ≡ Refused r → ⊥
  unfolding met
  met_open kept s x = go (reaches_zero s) kept
    where
      go : (b : Bool) (k : Step) → is_end k ≡ false → cond b (Zero x) (kept_or k (Kept (record { center = s.center; given = x }))) ≡ Refused r → ⊥
      go true k e h = clash (cc)
      go false Blocked e h = clash (cc)
      go false (Kept hop) e h = clash (cc)
      go false (Zero y) e h = true≢false e
      go false (Refused y) e h = true≢false e

  look_own : (kept : Step) (i : ℕ) → is_end kept ≡ false → look ev leg kept (seg segs i) i ≡ Refused r → ev (seg segs i) i leg.et ≡ Err r
  unfolding look
  look_own kept i e = go (leaves (seg segs i) leg) (ev (seg segs i) i leg.et)
    where
      go : (b : Bool) (v : Result Valued Refusal) → cond b (seen kept (seg segs i) v) kept ≡ Refused r → v ≡ Err r
      go false v h = absurd (true≢false (sym (ap is_end h) ∙ e))
      go true (Ok x) h = absurd (met_open kept (seg segs i) (given_by (seg segs i) x) e h)
      go true (Err y) h = ap Err (step_eq y r h)

  over_own : (kept : Step) (is : List ℕ) → is_end kept ≡ false → step_over ev segs leg kept is ≡ Refused r → (i : ℕ) × (ev (seg segs i) i leg.et ≡ Err r)
  unfolding step_over
  over_own kept [] e h = absurd (true≢false (sym (ap is_end h) ∙ e))
  over_own kept (i ∷ is) e h = go (is_end next) refl (λ x. over_own next is x) h
    where
      next : Step
      next = look ev leg kept (seg segs i) i

      go : (b : Bool) → is_end next ≡ b → (is_end next ≡ false → step_over ev segs leg next is ≡ Refused r → (j : ℕ) × (ev (seg segs j) j leg.et ≡ Err r))
          → cond b next (step_over ev segs leg next is) ≡ Refused r → (j : ℕ) × (ev (seg segs j) j leg.et ≡ Err r)
      go true x ih y = (i, look_own kept i e y)
      go false x ih y = ih x y

-- ---- a walk's refusal is 11, or one of a step
module _ (step : Leg → Step) (G : Refusal → Type 0) (own : (leg : Leg) (r : Refusal) → step leg ≡ Refused r → G r) (eleven : (b : ℤ) → G (NoCoverage b)) where
  at_11 : (b : ℤ) (r : Refusal) → no_coverage b ≡ Err r → G r
  at_11 b r h = subst G (refusal_eq (NoCoverage b) r h) (eleven b)

  walk_own : (leg : Leg) (left : ℕ) (r : Refusal) → walk_by step leg left ≡ Err r → G r
  unfolding walk_by
  walk_own leg zero r h = at_11 leg.start r h
  walk_own leg (suc left) r h = go (step leg) refl (λ on. walk_own on left r) h
    where
      go : (x : Step) → step leg ≡ x → ((on : Leg) → walk_by step on left ≡ Err r → G r)
          → follow (λ on. walk_by step on left) (advance leg x) ≡ Err r → G r
      go Blocked e ih h = at_11 leg.body r h
      go (Kept hop) e ih h = back (returns leg hop) h
        where
          back : (t : Bool) → follow (λ on. walk_by step on left) (cond t (Ended (no_coverage leg.start)) (Onward (onward leg hop))) ≡ Err r → G r
          back true h = at_11 leg.start r h
          back false h = ih (onward leg hop) h
      go (Zero x) e ih h = given_open _ r h
      go (Refused y) e ih h = own leg r (e ∙ ap Refused (refusal_eq y r h))

  zero_own : (leg : Leg) (r : Refusal) → to_zero_by step leg ≡ Err r → G r
  unfolding to_zero_by
  zero_own leg r = go (is_zero leg)
    where
      go : (b : Bool) → cond b (Ok leg.total) (walk_by step leg chain_limit) ≡ Err r → G r
      go true h = given_open _ r h
      go false h = walk_own leg chain_limit r h

-- ---- a question
-- from 10 to 15
abbrev Asked-number : Refusal → Type 0
Asked-number r = (10 ≤ number_of r) × (number_of r ≤ 15)

module _ (limit : ℕ) (ev : Evaluation) (owns : OwnOnly ev) (segs : List Segment) (n : ℕ) (ix : List ℕ) (m : Memory) (q : Question) where
  own_number : (i : ℕ) (r : Refusal) → ev (seg segs i) i q.et ≡ Err r → Asked-number r
  own_number i r e = let b = own_within (number_of r) (owns (seg segs i) i q.et r e) in (omega arith, omega arith)

  step : Leg → Step
  step = step_by ev segs n (first_of ix) (above_of ix)

  step_number : (leg : Leg) (r : Refusal) → step leg ≡ Refused r → Asked-number r
  unfolding step step_by
  step_number leg r h = let w = over_own ev segs leg r Blocked _ refl h in let b = own_within (number_of r) (owns _ _ _ r w.1) in (omega arith, omega arith)

  chain_number : (r : Refusal) → chained_by ev segs n ix q ≡ Err r → Asked-number r
  unfolding chained_by difference_of step
  chain_number r h = go (to_zero_by step (leg_from q)) (to_zero_by step (leg_from (swapped q))) refl refl h
    where
      go : (a b : Result Given Refusal) → to_zero_by step (leg_from q) ≡ a → to_zero_by step (leg_from (swapped q)) ≡ b → difference_of a b ≡ Err r → Asked-number r
      go (Ok x) (Ok y) u v e = given_open _ r e
      go (Ok x) (Err y) u v e =
          zero_own step Asked-number step_number (λ b. (omega arith, omega arith)) (leg_from (swapped q)) r (v ∙ e)
      go (Err x) b u v e = zero_own step Asked-number step_number (λ b. (omega arith, omega arith)) (leg_from q) r (u ∙ e)

  -- what the choices result in is refused so, and its way is no refusal
  record Comes (f : Found) : Type 0 where
    open_way : is_refused f.way ≡ false
    numbers : (r : Refusal) → f.result ≡ Err r → Asked-number r

  back_comes : (c : Option ℕ) → Comes (back_or ev segs q (chained_by ev segs n ix q) c)
  back_comes (Some i) = record { open_way = refl; numbers = λ r h. own_number i r (yield_why (seg segs i) _ r (negated_why _ r h)) }
  back_comes None = record { open_way = refl; numbers = chain_number }

  ahead_comes : (c : Option ℕ) → Comes (ahead_or ev segs q (backward_by ev segs n ix q) c)
  unfolding backward_by
  ahead_comes (Some i) = record { open_way = refl; numbers = λ r h. own_number i r (yield_why (seg segs i) _ r h) }
  ahead_comes None = back_comes (last_found segs n ix (swapped q))

  -- both of a refused answer: its number, and its zeros
  abbrev Both : Answer → Refusal → Type 0
  Both a r = Asked-number r × (a ≡ refused_answer r)

  settled_both : (f : Found) → Comes f → (r : Refusal) → (answer_to f).way ≡ ways.Refused r → Both (answer_to f) r
  settled_both f c r h =
      ⊎_elim (λ e. (c.numbers r e, settled_refused _ _ r e))
      (λ e. (let z = ap number_of e.3 in (omega arith, omega arith), settled_state _ _ e.0 false e.1 e.2 ∙ ap refused_answer e.3))
      (settled_why f.way f.result r c.open_way h)

  -- the answer of the tests before the choice; else the choice's
  early_both : (x : Asked) → ((r : Refusal) → x.answer.way ≡ ways.Refused r → Both x.answer r)
      → (r : Refusal) → (early_or (early limit n q) m x).answer.way ≡ ways.Refused r → Both (early_or (early limit n q) m x).answer r
  unfolding early same_answer
  early_both x past r = go (is_same q) (ready limit n q.et) (ready_why limit n q.et)
    where
      given : Bool → Result (Unit {0}) Refusal → Asked
      given a y = early_or (cond a (Some same_answer) (option_map refused_answer (result_err y))) m x

      go : (a : Bool) (y : Result (Unit {0}) Refusal) → ((v : Refusal) → y ≡ Err v → (v ≡ TableUnfit) ⊎ (v ≡ EpochNan))
          → (given a y).answer.way ≡ ways.Refused r → Both (given a y).answer r
      go true y w h = clash (cc)
      go false (Err v) w h =
          let e = answer_refused v r h in
          let z = ap number_of e in
          (⊎_elim (λ k. let u = ap number_of k in (omega arith, omega arith)) (λ k. let u = ap number_of k in (omega arith, omega arith)) (w v refl), ap refused_answer e)
      go false (Ok t) w h = past r h

  through_both : (r : Refusal) → (asked_through limit ev segs n ix m q).answer.way ≡ ways.Refused r → Both (asked_through limit ev segs n ix m q).answer r
  unfolding asked_through
  through_both = early_both _ (settled_both _ (ahead_comes (forward_found segs n ix m q)))

  with_both : (r : Refusal) → (asked_with limit ev segs n ix m q).answer.way ≡ ways.Refused r → Both (asked_with limit ev segs n ix m q).answer r
  unfolding asked_with
  with_both r =
      by_test_lem (has_room n ix) (λ e. rw e (through_both r))
      (λ e. rw e (λ h. (no_other limit ev segs n m q owns r h, refused_zeros limit ev segs n m q r h)))

  -- no refusal but 10 to 15 is ever given
  pub with_other : (r : Refusal) → (asked_with limit ev segs n ix m q).answer.way ≡ ways.Refused r → (10 ≤ number_of r) × (number_of r ≤ 15)
  with_other r h = (with_both r h).0

  -- with a refusal stand six zeros and no segment
  pub with_zeros : (r : Refusal) → (asked_with limit ev segs n ix m q).answer.way ≡ ways.Refused r → (asked_with limit ev segs n ix m q).answer ≡ refused_answer r
  with_zeros r h = (with_both r h).1

  -- in a frame
  turned_both : (wanted : Option ℤ) (rot : Matrix) (r : Refusal) → (asked_in_with limit ev segs n ix m q wanted rot).answer.way ≡ ways.Refused r
      → InNumber (number_of r) × ((asked_in_with limit ev segs n ix m q wanted rot).answer ≡ refused_answer r)
  turned_both wanted rot r h =
      let w = turned_why wanted rot (asked_with limit ev segs n ix m q).answer r (λ s e. (with_both s e).1) h in
      (⊎_elim (λ e. inl (with_both r e).0) (λ e. ⊎_elim (λ x. inr (sym (ap number_of x))) (λ x. let z = ap number_of x in inl (omega arith, omega arith)) e) w.0, w.1)

  module _ (wanted : Option ℤ) (rot : Matrix) where
    pub with_in_other : (r : Refusal) → (asked_in_with limit ev segs n ix m q wanted rot).answer.way ≡ ways.Refused r → InNumber (number_of r)
    with_in_other r h = (turned_both wanted rot r h).0

    pub with_in_zeros : (r : Refusal) → (asked_in_with limit ev segs n ix m q wanted rot).answer.way ≡ ways.Refused r
        → (asked_in_with limit ev segs n ix m q wanted rot).answer ≡ refused_answer r
    with_in_zeros r h = (turned_both wanted rot r h).1
