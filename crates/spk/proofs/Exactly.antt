-- EXACTLY WHEN a question is refused, and with which number: for any evaluation that gives only its own refusals (12, 13, 14).
--     exactly_10, exactly_11, exactly_own, exactly_14, exactly_15    10; 11 for a body; 12 and 13; 14; 15
--     no_other         no number but 10 to 15 is given
--     refused_zeros    with a refusal stand six zeros and no segment
--     answered_gives   any other answer holds the state that was given, in the frame of the segments that gave it
--     never_14         where the count fits and no segment is refused with 14, no question is
-- A state in a frame is in `ExactlyIn`, a segment alone in `ExactlyAlone`. Assumes nothing.
use Prim.Native.Nat.{ℕ, ◌≤◌, ◌<◌}
use mathlib.Core.Path.{◌≡◌, refl, sym, ap, ap₂, ◌∙◌, subst}
use mathlib.Core.Bool.{Bool, true, false, cond, ◌||◌, true≢false}
use mathlib.Core.Logic.{◌⊎◌, inl, inr, ⊎_elim, ◌↔◌}
use mathlib.Core.List.{List}
use native.Mathlib.Omega.{arith}
use native.Mathlib.Decide.{dec_lt}
use lib.Dec.{eqb}
use lib.Ieee.{Float, is_nan}
use lib.IntN.{ℤ}
use borrow.Author.Tests.{eqb-true}
use Rattle.bits.proofs.Tests.{by_test_lem}
use Rattle.frame.specs.declared.Given.{Given}
use Rattle.frame.specs.State.{finite_state}
use Rattle.frame.specs.Given.{negated_given, minus_given}
use Rattle.refusal.specs.declared.Refusal.{Refusal}
use Rattle.refusal.specs.declared.Refusal.TheVariants.{EpochNan, NoCoverage, TableUnfit, NotFinite}
use Rattle.refusal.specs.Numbers.{number_of}
use Rattle.segment.specs.declared.Segment.{Segment}
use Rattle.segment.specs.declared.Valued.{Valued}
use Rattle.std.proofs.Common.{Option, Some, None, Result, Ok, Err}
use Rattle.table.specs.Segments.{seg}
use Rattle.table.proofs.Last.{chosen_at, last_chosen}
use Rattle.chain.specs.declared.Leg.{Leg}
use Rattle.chain.specs.Step.{Evaluation, given_by, yield_of}
use Rattle.chain.specs.Walk.{chain_limit, walk_from, to_zero}
use Rattle.chain.specs.When.{is_own, OwnOnly, Stuck, Failed}
use Rattle.chain.proofs.Walks.{zero_walk}
use Rattle.chain.proofs.Ends.{clash, stuck_where}
use Rattle.chain.proofs.Failing.{failed_where, zero_why, failed_given}
use Rattle.spk.specs.declared.Question.{Question}
use Rattle.spk.specs.declared.Way.{Way}
use Rattle.spk.specs.declared.Way.TheVariants as ways
use Rattle.spk.specs.declared.Answer.{Answer}
use Rattle.spk.specs.declared.Asked.{Asked}
use Rattle.spk.specs.Questions.{is_same, swapped, hits}
use Rattle.spk.specs.Choosing.{Memory, last_reversed, forward_in}
use Rattle.spk.specs.Answers.{answer_of, refused_answer, same_answer, settled, negated_of, difference_of}
use Rattle.spk.specs.Asking.{Found, leg_from, chained, backward, found_by, answer_to, asked}
use Rattle.spk.specs.Turning.{is_refused}
use Rattle.spk.specs.When.{is12or13, Arrives, OfWalk, InChain, Open, answer, RefusedBy, Chaining, Refuses, forward, reversed, Gives, by_forward, by_reversed, by_chain, When10, When11, WhenOwn, When14, When15}
use Rattle.spk.specs.When as when
use Rattle.spk.proofs.Forged.{forged_forward}
use Rattle.spk.proofs.Settling.{settled_refused, settled_state, negated_refused, negated_state_lem}
use Rattle.spk.proofs.Order.{asked_same, asked_unfit, asked_nan, asked_choice}
use Rattle.frame.proofs.Finite.{infinite_where, infinite_only}

-- a refused answer's way
pub way_refused : (r : Refusal) → (refused_answer r).way ≡ ways.Refused r
unfolding refused_answer
way_refused r = refl

pub answer_refused : (r s : Refusal) → (refused_answer r).way ≡ ways.Refused s → r ≡ s
answer_refused r s h = let e : ◌≡◌ {A = Way} (ways.Refused r) (ways.Refused s) = sym (way_refused r) ∙ h in cc

-- why an evaluation that was settled is refused: by itself, or by 15
pub settled_why : (way : Way) (e : Result Given Refusal) (r : Refusal) → is_refused way ≡ false → (settled way e).way ≡ ways.Refused r
    → (e ≡ Err r) ⊎ ((g : Given) × (e ≡ Ok g) × (finite_state g.state ≡ false) × (NotFinite ≡ r))
unfolding settled
settled_why way (Err x) r w h = inl (ap Err (answer_refused x r h))
settled_why way (Ok g) r w h = go (finite_state g.state) refl h
  where
    go : (b : Bool) → finite_state g.state ≡ b → (cond b (answer_of way g) (refused_answer NotFinite)).way ≡ ways.Refused r
        → (◌≡◌ {A = Result Given Refusal} (Ok g) (Err r)) ⊎ ((x : Given) × ◌≡◌ {A = Result Given Refusal} (Ok g) (Ok x) × (finite_state x.state ≡ false) × (NotFinite ≡ r))
    go true f e = absurd (true≢false (sym (ap is_refused e) ∙ w))
    go false f e = inr (g, refl, f, answer_refused NotFinite r e)

-- what an evaluation that was settled and is no refusal gave, and that the answer holds it
pub settled_gives : (way : Way) (e : Result Given Refusal) → is_refused (settled way e).way ≡ false → (g : Given) × (e ≡ Ok g) × ((settled way e).given ≡ g)
unfolding settled refused_answer
settled_gives way (Err r) h = absurd (true≢false h)
settled_gives way (Ok g) h = go (finite_state g.state) h
  where
    go : (b : Bool) → is_refused (cond b (answer_of way g) (refused_answer NotFinite)).way ≡ false
        → (x : Given) × ◌≡◌ {A = Result Given Refusal} (Ok g) (Ok x) × ((cond b (answer_of way g) (refused_answer NotFinite)).given ≡ x)
    go true e = (g, refl, refl)
    go false e = absurd (true≢false e)

same_open : (r : Refusal) → same_answer.way ≡ ways.Refused r → ⊥
unfolding same_answer
same_open r h = clash (cc)

pub given_open : {X : Type 0} (g : Given) (r : Refusal) → ◌≡◌ {A = Result Given Refusal} (Ok g) (Err r) → X
given_open g r h = clash (cc)

refusal_eq : (r s : Refusal) → ◌≡◌ {A = Result Given Refusal} (Err r) (Err s) → r ≡ s
refusal_eq r s h = cc

-- what a segment gives is a refusal, or a state, exactly where its evaluation is
pub yield_why : (s : Segment) (e : Result Valued Refusal) (r : Refusal) → yield_of s e ≡ Err r → e ≡ Err r
yield_why s (Ok x) r h = given_open _ r h
yield_why s (Err x) r h = ap Err (refusal_eq x r h)

pub negated_why : (e : Result Given Refusal) (r : Refusal) → negated_of e ≡ Err r → e ≡ Err r
unfolding negated_of
negated_why (Ok g) r h = given_open _ r h
negated_why (Err x) r h = h

pub given_one : (a b : Given) → ◌≡◌ {A = Result Given Refusal} (Ok a) (Ok b) → a ≡ b
given_one a b h = cc

pub yield_gives : (s : Segment) (e : Result Valued Refusal) (g : Given) → yield_of s e ≡ Ok g → (x : Valued) × (e ≡ Ok x) × (given_by s x ≡ g)
yield_gives s (Ok x) g h = (x, refl, given_one _ g h)
yield_gives s (Err r) g h = given_open g r (sym h)

negated_gives : (e : Result Given Refusal) (g : Given) → negated_of e ≡ Ok g → (x : Given) × (e ≡ Ok x) × (negated_given x ≡ g)
unfolding negated_of
negated_gives (Ok x) g h = (x, refl, given_one _ g h)
negated_gives (Err x) g h = given_open g x (sym h)

-- a number of an evaluation's own
pub own_within : (k : ℕ) → (eqb k 12 || eqb k 13 || eqb k 14) ≡ true → (12 ≤ k) × (k ≤ 14)
own_within k h =
    by_test_lem (eqb k 12) (λ a. let x = eqb-true k 12 a in (omega arith, omega arith))
    (λ a.
    by_test_lem (eqb k 13) (λ b. let x = eqb-true k 13 b in (omega arith, omega arith))
    (λ b.
    by_test_lem (eqb k 14) (λ c. let x = eqb-true k 14 c in (omega arith, omega arith)) (λ c. absurd (true≢false (sym h ∙ rw (a, b, c))))))

-- ---- the chain is refused exactly where one of its walks is
module _ (ev : Evaluation) (segs : List Segment) (n : ℕ) (q : Question) where
  -- what holds of a walk that is refused
  in_chain : (P : Leg → Type 0) (r : Refusal) → ((leg : Leg) → P leg → walk_from ev segs n leg chain_limit ≡ Err r) → InChain ev segs n P q
      → chained ev segs n q ≡ Err r
  unfolding chained difference_of
  in_chain P r f w =
      ⊎_elim (λ x. ap (λ (e : Result Given Refusal). difference_of e (to_zero ev segs n (leg_from (swapped q)))) (of q x))
      (λ x. ap₂ difference_of x.0.1 (of (swapped q) x.1)) w
    where
      of : (p : Question) → OfWalk ev segs n P p → to_zero ev segs n (leg_from p) ≡ Err r
      of p x = zero_walk ev segs n (leg_from p) x.0 ∙ f (leg_from p) x.1

  -- why it is refused: by a segment, or stuck
  abbrev Why-chain : Refusal → Type 0
  Why-chain r =
      ((i : ℕ) × InChain ev segs n (λ leg. Failed ev segs n leg chain_limit i r) q)
      ⊎ ((b : ℤ) × InChain ev segs n (λ leg. Stuck ev segs n leg chain_limit b) q × (NoCoverage b ≡ r))

  chain_why : (r : Refusal) → chained ev segs n q ≡ Err r → Why-chain r
  unfolding chained difference_of
  chain_why r h = go (to_zero ev segs n (leg_from q)) (to_zero ev segs n (leg_from (swapped q))) refl refl h
    where
      go : (a b : Result Given Refusal) → to_zero ev segs n (leg_from q) ≡ a → to_zero ev segs n (leg_from (swapped q)) ≡ b → difference_of a b ≡ Err r → Why-chain r
      go (Ok x) (Ok y) u v e = given_open _ r e
      go (Ok x) (Err y) u v e =
          let w = zero_why ev segs n (leg_from (swapped q)) r (v ∙ e) in
          ⊎_elim (λ f. inl (f.0, inr ((x, u), (w.0, f.1)))) (λ s. inr (s.0, inr ((x, u), (w.0, s.1)), s.2)) w.1
      go (Err x) b u v e =
          let w = zero_why ev segs n (leg_from q) r (u ∙ e) in
          ⊎_elim (λ f. inl (f.0, inl (w.0, f.1))) (λ s. inr (s.0, inl (w.0, s.1), s.2)) w.1

  -- a state, of both walks
  chain_gives : (g : Given) → chained ev segs n q ≡ Ok g
      → (a : Arrives ev segs n q) × (b : Arrives ev segs n (swapped q)) × (minus_given a.0 b.0 ≡ g)
  unfolding chained difference_of
  chain_gives g h = go (to_zero ev segs n (leg_from q)) (to_zero ev segs n (leg_from (swapped q))) refl refl h
    where
      go : (a b : Result Given Refusal) → to_zero ev segs n (leg_from q) ≡ a → to_zero ev segs n (leg_from (swapped q)) ≡ b → difference_of a b ≡ Ok g
          → (x : Arrives ev segs n q) × (y : Arrives ev segs n (swapped q)) × (minus_given x.0 y.0 ≡ g)
      go (Ok x) (Ok y) u v e = ((x, u), (y, v), given_one _ g e)
      go (Ok x) (Err y) u v e = given_open g y (sym e)
      go (Err x) b u v e = given_open g x (sym e)

-- a choice's way is no refusal
way_open : (ev : Evaluation) (segs : List Segment) (n : ℕ) (q : Question) (c : Option ℕ) → is_refused (found_by ev segs n q c).way ≡ false
way_open ev segs n q (Some i) = refl
way_open ev segs n q None = go (last_reversed segs n q)
  where
    go : (c : Option ℕ) → is_refused (backward ev segs n q c).way ≡ false
    go (Some i) = refl
    go None = refl

module _ (limit : ℕ) (ev : Evaluation) (segs : List Segment) (n : ℕ) (m : Memory) (q : Question) where
  -- ---- what a question results in before 15
  abbrev found : Found
  found = found_by ev segs n q (forward_in segs n m q)

  -- why it is refused
  data Found-why (r : Refusal) : Type 0 where
    by : (i : ℕ) → Refuses limit ev segs n m q i r → Found-why r
    stuck : (b : ℤ) → Chaining limit ev segs n m q → InChain ev segs n (λ leg. Stuck ev segs n leg chain_limit b) q → NoCoverage b ≡ r → Found-why r

  found_why : (r : Refusal) → found.result ≡ Err r → Found-why r
  found_why r h = go (forward_in segs n m q) refl h
    where
      back : (c : Option ℕ) → forward_in segs n m q ≡ None → last_reversed segs n q ≡ c → (backward ev segs n q c).result ≡ Err r → Found-why r
      back (Some i) e f x = by i (reversed e f (yield_why (seg segs i) _ r (negated_why _ r x)))
      back None e f x =
          let c : Chaining limit ev segs n m q = record { forward = e; reversed = f } in
          ⊎_elim (λ w. by w.0 (when.chained c w.1)) (λ w. stuck w.0 c w.1 w.2) (chain_why ev segs n q r x)

      go : (c : Option ℕ) → forward_in segs n m q ≡ c → (found_by ev segs n q c).result ≡ Err r → Found-why r
      go (Some i) e x = by i (forward e (yield_why (seg segs i) _ r x))
      go None e x = back (last_reversed segs n q) e refl x

  found_chain : (e : Result Given Refusal) → Chaining limit ev segs n m q → chained ev segs n q ≡ e → found.result ≡ e
  found_chain e c h =
      ap (λ (x : Option ℕ). (found_by ev segs n q x).result) c.forward ∙ ap (λ (x : Option ℕ). (backward ev segs n q x).result) c.reversed ∙ h

  found_refused : (r : Refusal) → Found-why r → found.result ≡ Err r
  found_refused r (by i (forward e v)) = ap (λ (x : Option ℕ). (found_by ev segs n q x).result) e ∙ ap (yield_of (seg segs i)) v
  found_refused r (by i (reversed e f v)) =
      ap (λ (x : Option ℕ). (found_by ev segs n q x).result) e ∙ ap (λ (x : Option ℕ). (backward ev segs n q x).result) f ∙ negated_refused _ r (ap (yield_of (seg segs i)) v)
  found_refused r (by i (when.chained c w)) =
      found_chain (Err r) c (in_chain ev segs n q (λ leg. Failed ev segs n leg chain_limit i r) r (λ leg. failed_where ev segs n leg chain_limit i r) w)
  found_refused r (stuck b c w e) =
      found_chain (Err r) c
      (in_chain ev segs n q (λ leg. Stuck ev segs n leg chain_limit b) r (λ leg x. stuck_where ev segs n leg chain_limit b x ∙ ap Err e) w)

  -- a state, and by which way
  found_gives : (g : Given) → found.result ≡ Ok g → Gives limit ev segs n m q g
  found_gives g h = go (forward_in segs n m q) refl h
    where
      back : (c : Option ℕ) → forward_in segs n m q ≡ None → last_reversed segs n q ≡ c → (backward ev segs n q c).result ≡ Ok g → Gives limit ev segs n m q g
      back (Some i) e f x =
          let w = negated_gives _ g x in
          let v = yield_gives (seg segs i) _ w.0 w.1 in
          by_reversed i v.0 e f v.1 (ap negated_given v.2 ∙ w.2)
      back None e f x = let w = chain_gives ev segs n q g x in by_chain (record { forward = e; reversed = f }) w.0 w.1 w.2

      go : (c : Option ℕ) → forward_in segs n m q ≡ c → (found_by ev segs n q c).result ≡ Ok g → Gives limit ev segs n m q g
      go (Some i) e x = let v = yield_gives (seg segs i) _ g x in by_forward i v.0 e v.1 v.2
      go None e x = back (last_reversed segs n q) e refl x

  gives_found : (g : Given) → Gives limit ev segs n m q g → found.result ≡ Ok g
  unfolding chained difference_of
  gives_found g (by_forward i x e v z) = ap (λ (y : Option ℕ). (found_by ev segs n q y).result) e ∙ ap (yield_of (seg segs i)) v ∙ ap Ok z
  gives_found g (by_reversed i x e f v z) =
      ap (λ (y : Option ℕ). (found_by ev segs n q y).result) e
      ∙ ap (λ (y : Option ℕ). (backward ev segs n q y).result) f
      ∙ negated_state_lem _ (given_by (seg segs i) x) (ap (yield_of (seg segs i)) v)
      ∙ ap Ok z
  gives_found g (by_chain c a b z) = found_chain (Ok g) c (ap₂ difference_of a.1 b.1 ∙ ap Ok z)

  -- the segment that refuses is of the table, and is evaluated so
  pub refuses_own : (i : ℕ) (r : Refusal) → Refuses limit ev segs n m q i r → (i < n) × (ev (seg segs i) i q.et ≡ Err r)
  refuses_own i r (forward e v) = ((forged_forward segs n m q i e).0, v)
  refuses_own i r (reversed e f v) = ((chosen_at (hits (swapped q)) segs n _ i f (last_chosen (hits (swapped q)) segs n)).0, v)
  refuses_own i r (when.chained c w) =
      ⊎_elim (λ x. failed_given ev segs n (leg_from q) chain_limit i r x.1) (λ x. failed_given ev segs n (leg_from (swapped q)) chain_limit i r x.1.1) w

  -- ---- which test a refusal comes from
  pub data Why (r : Refusal) : Type 0 where
    over : is_same q ≡ false → limit < n → TableUnfit ≡ r → Why r
    nan : When10 limit ev segs n m q → EpochNan ≡ r → Why r
    none : (b : ℤ) → When11 limit ev segs n m q b → NoCoverage b ≡ r → Why r
    own : WhenOwn limit ev segs n m q r → Why r
    infinite : When15 limit ev segs n m q → NotFinite ≡ r → Why r

  choice : Option ℕ
  choice = forward_in segs n m q

  -- what was settled past the first three tests
  past_way : Open limit n q → answer limit ev segs n m q ≡ answer_to (found)
  past_way o = ap (λ (a : Asked). a.answer) (asked_choice limit ev segs n m q _ o.other o.fits o.number)

  past_refused : (r : Refusal) → Open limit n q → Found-why r → answer limit ev segs n m q ≡ refused_answer r
  past_refused r o w = past_way o ∙ settled_refused _ _ r (found_refused r w)

  whole : (r : Refusal) → Why r → answer limit ev segs n m q ≡ refused_answer r
  whole r (over e l x) = ap (λ (a : Asked). a.answer) (asked_unfit limit ev segs n m q _ e l) ∙ ap refused_answer x
  whole r (nan w x) = ap (λ (a : Asked). a.answer) (asked_nan limit ev segs n m q _ w.other w.fits w.nan) ∙ ap refused_answer x
  whole r (none b w x) = past_refused r w.past (stuck b w.chaining w.stuck x)
  whole r (own w) = past_refused r w.past (by w.number w.refuses)
  whole r (infinite w x) =
      past_way w.past ∙ settled_state _ _ w.given false (gives_found w.given w.gives) (infinite_where w.given.state w.infinite) ∙ ap refused_answer x

  pub given_why : (r : Refusal) → Why r → RefusedBy limit ev segs n m q r
  given_why r w = ap (λ (a : Answer). a.way) (whole r w) ∙ way_refused r

  past_why : (r : Refusal) → Open limit n q → (answer_to (found)).way ≡ ways.Refused r → Why r
  unfolding choice
  past_why r o h =
      ⊎_elim (λ p. of (found_why r p)) (λ p. infinite (record { past = o; given = p.0; gives = found_gives p.0 p.1; infinite = infinite_only p.0.state p.2 }) p.3)
      (settled_why _ _ r (way_open ev segs n q choice) h)
    where
      of : Found-why r → Why r
      of (by i w) = own (record { past = o; number = i; refuses = w })
      of (stuck b c w e) = none b (record { past = o; chaining = c; stuck = w }) e

  pub why : (r : Refusal) → RefusedBy limit ev segs n m q r → Why r
  unfolding choice
  why r h =
      by_test_lem (is_same q) (λ e. absurd (same_open r (from (asked_same limit ev segs n m q choice e))))
      (λ e.
      elim (dec_lt limit n) [
        | yes l ↦ over e l (answer_refused TableUnfit r (from (asked_unfit limit ev segs n m q choice e l)))
        | no g ↦
            let le : n ≤ limit = omega arith in
            by_test_lem (is_nan q.et)
            (λ d. nan (record { other = e; fits = le; nan = d }) (answer_refused EpochNan r (from (asked_nan limit ev segs n m q choice e le d))))
            (λ d. past_why r (record { other = e; fits = le; number = d }) (from (asked_choice limit ev segs n m q choice e le d)))
      ])
    where
      from : {a : Asked} → asked limit ev segs n m q ≡ a → a.answer.way ≡ ways.Refused r
      from e = ap (λ (x : Asked). x.answer.way) (sym e) ∙ h

  -- **answered-gives**: an answer past the first three tests that is no refusal holds the state that was given, in the frame of the segments that gave it
  pub answered_gives : Open limit n q → is_refused (answer limit ev segs n m q).way ≡ false → Gives limit ev segs n m q (answer limit ev segs n m q).given
  answered_gives o h =
      let w = settled_gives found.way found.result (ap (λ (a : Answer). is_refused a.way) (sym (past_way o)) ∙ h) in
      found_gives _ (w.1 ∙ ap Ok (sym w.2 ∙ ap (λ (a : Answer). a.given) (sym (past_way o))))

  -- **refused-zeros**: with a refusal stand six zeros and no segment
  pub refused_zeros : (r : Refusal) → RefusedBy limit ev segs n m q r → answer limit ev segs n m q ≡ refused_answer r
  refused_zeros r h = whole r (why r h)

  -- where the count fits and no segment of the table is refused with 14, no question is
  pub never_14 : n ≤ limit → ((i : ℕ) → i < n → (et : Float) → ev (seg segs i) i et ≡ Err TableUnfit → ⊥) → RefusedBy limit ev segs n m q TableUnfit → ⊥
  never_14 le fit h = only (why TableUnfit h)
    where
      only : Why TableUnfit → ⊥
      only (over e l x) = omega arith
      only (nan w x) = clash (cc)
      only (none b w x) = clash (cc)
      only (own w) = let g = refuses_own w.number TableUnfit w.refuses in fit w.number g.0 q.et g.1
      only (infinite w x) = clash (cc)

  module _ (owns : OwnOnly ev) where
    -- a refusal that no evaluation gives
    other : {X : Type 0} (r : Refusal) → is_own r ≡ false → WhenOwn limit ev segs n m q r → X
    other r f w = absurd (true≢false (sym (owns _ _ _ r (refuses_own w.number r w.refuses).1) ∙ f))

    -- **exactly-when**, 10
    pub exactly_10 : When10 limit ev segs n m q ↔ RefusedBy limit ev segs n m q EpochNan
    exactly_10 = (λ w. given_why EpochNan (nan w refl), λ h. only (why EpochNan h))
      where
        only : Why EpochNan → When10 limit ev segs n m q
        only (over e l x) = clash (cc)
        only (nan w x) = w
        only (none b w x) = clash (cc)
        only (own w) = other EpochNan refl w
        only (infinite w x) = clash (cc)

    -- **exactly-when**, 11, whose detail is the body without a way
    pub exactly_11 : (b : ℤ) → When11 limit ev segs n m q b ↔ RefusedBy limit ev segs n m q (NoCoverage b)
    exactly_11 b = (λ w. given_why (NoCoverage b) (none b w refl), λ h. only (why (NoCoverage b) h))
      where
        only : Why (NoCoverage b) → When11 limit ev segs n m q b
        only (over e l x) = clash (cc)
        only (nan w x) = clash (cc)
        only (none d w x) = let e : d ≡ b = cc in subst (When11 limit ev segs n m q) e w
        only (own w) = other (NoCoverage b) refl w
        only (infinite w x) = clash (cc)

    -- **exactly-when**, 15
    pub exactly_15 : When15 limit ev segs n m q ↔ RefusedBy limit ev segs n m q NotFinite
    exactly_15 = (λ w. given_why NotFinite (infinite w refl), λ h. only (why NotFinite h))
      where
        only : Why NotFinite → When15 limit ev segs n m q
        only (over e l x) = clash (cc)
        only (nan w x) = clash (cc)
        only (none b w x) = clash (cc)
        only (own w) = other NotFinite refl w
        only (infinite w x) = w

    -- no refusal but 10 to 15 is ever given
    pub no_other : (r : Refusal) → RefusedBy limit ev segs n m q r → (10 ≤ number_of r) × (number_of r ≤ 15)
    no_other r h = only (why r h)
      where
        within : (k : ℕ) → (10 ≤ k) × (k ≤ 15) → k ≡ number_of r → (10 ≤ number_of r) × (number_of r ≤ 15)
        within k b e = rw e at b

        only : Why r → (10 ≤ number_of r) × (number_of r ≤ 15)
        only (over e l x) = within 14 (omega arith) (ap number_of x)
        only (nan w x) = within 10 (omega arith) (ap number_of x)
        only (none b w x) = within 11 (omega arith) (ap number_of x)
        only (own w) = let b = own_within (number_of r) (owns _ _ _ r (refuses_own w.number r w.refuses).1) in omega arith
        only (infinite w x) = within 15 (omega arith) (ap number_of x)

  -- **exactly-when**, 14
  pub exactly_14 : When14 limit ev segs n m q ↔ RefusedBy limit ev segs n m q TableUnfit
  exactly_14 = (λ w. ⊎_elim (λ l. given_why TableUnfit (over w.other l refl)) (λ x. given_why TableUnfit (own x)) w.either, λ h. only (why TableUnfit h))
    where
      only : Why TableUnfit → When14 limit ev segs n m q
      only (over e l x) = record { other = e; either = inl l }
      only (nan w x) = clash (cc)
      only (none b w x) = clash (cc)
      only (own w) = record { other = w.past.other; either = inr w }
      only (infinite w x) = clash (cc)

  -- **exactly-when**, 12 and 13: a segment that is evaluated is refused so
  pub exactly_own : (r : Refusal) → is12or13 r ≡ true → WhenOwn limit ev segs n m q r ↔ RefusedBy limit ev segs n m q r
  exactly_own r t = (λ w. given_why r (own w), λ h. only (why r h))
    where
      no : {X : Type 0} (x : Refusal) → x ≡ r → is12or13 x ≡ false → X
      no x e f = absurd (true≢false (sym t ∙ ap is12or13 (sym e) ∙ f))

      only : Why r → WhenOwn limit ev segs n m q r
      only (over e l x) = no TableUnfit x refl
      only (nan w x) = no EpochNan x refl
      only (none b w x) = no (NoCoverage b) x refl
      only (own w) = w
      only (infinite w x) = no NotFinite x refl
