-- AN ANSWER DEPENDS ON NOTHING BUT THE SEGMENTS THAT IT EVALUATES: two evaluations (of one table, over two kernels) that agree on those
-- give the same answer and the same memory.
--     own_asked                    any question, by the segments that it evaluates
--     own_forward, own_reversed    an answer that names a segment, by that segment alone
--     own_alone                    a segment alone, by itself
--     own_replied                  a question of any kind, by the segments that it evaluates
--     turned_way                   a question in a frame that is answered has the way of the question itself
-- What an evaluation of one segment depends on, its own doubles, is in `InKernel`.
-- Assumes nothing.
use Prim.Native.Nat.{ℕ, ◌≤◌}
use mathlib.Core.Path.{◌≡◌, refl, sym, ap, ap₂, ◌∙◌, subst}
use mathlib.Core.Bool.{Bool, true, false, cond, true≢false}
use mathlib.Core.List.{List, [], ◌∷◌}
use native.Mathlib.Omega.{arith}
use native.Mathlib.Decide.{dec_lt}
use lib.Dec.{ltb}
use lib.IntN.{ℤ}
use lib.Ieee.{Float, is_nan}
use Rattle.bits.proofs.Tests.{by_test_lem}
use Rattle.frame.specs.State.{finite_state}
use Rattle.frame.specs.Frame.{Matrix}
use Rattle.frame.specs.Framed.{turn_of}
use Rattle.frame.specs.declared.Turn.{Turn}
use Rattle.frame.specs.declared.Turn.TheVariants.{Stands, Forth, Back, Never}
use Rattle.refusal.specs.declared.Refusal.{Refusal}
use Rattle.refusal.specs.declared.Refusal.TheVariants.{TableUnfit, EpochNan, NotFinite, OtherFrame}
use Rattle.refusal.specs.Order.{case, first_of}
use Rattle.segment.specs.declared.Segment.{Segment}
use Rattle.std.proofs.Common.{Result, Ok, Err}
use Rattle.segment.specs.declared.Valued.{Valued}
use Rattle.table.specs.Segments.{seg}
use Rattle.std.proofs.Common.{Option, Some, None}
use Rattle.frame.specs.declared.Given.{Given}
use Rattle.chain.specs.Step.{Evaluation, yield_of}
use Rattle.chain.specs.Walk.{chain_limit, to_zero}
use Rattle.chain.proofs.Ends.{clash}
use Rattle.chain.proofs.Own.{Alike, touched_on, zero_alike}
use Rattle.spk.specs.declared.Question.{Question}
use Rattle.spk.specs.declared.Way.{Way}
use Rattle.spk.specs.declared.Way.TheVariants as ways
use Rattle.spk.specs.declared.Answer.{Answer}
use Rattle.spk.specs.declared.Asked.{Asked}
use Rattle.spk.specs.Questions.{is_same, swapped}
use Rattle.spk.specs.Choosing.{Memory, last_reversed, forward_in, remembered}
use Rattle.spk.specs.Answers.{answer_of, refused_answer, same_answer, settled, negated_of, difference_of}
use Rattle.spk.specs.Asking.{Found, leg_from, chained, backward, found_by, answer_to, asked_by, asked}
use Rattle.spk.specs.Turning.{frame_of, is_refused, turned_by, turned_answer, turned_asked}
use Rattle.spk.specs.Alone.{alone_answer}
use Rattle.spk.specs.Runs.{Asking, Plain, InFrame, Single, replied}
use Rattle.spk.specs.When.{Open, Evaluates}
use Rattle.spk.specs.Touched.{TouchedChain, touched_back, touched_by, Touched, TouchedReplied}
use Rattle.spk.proofs.Single.{turned_by_lem, alone_unfit, alone_nan, alone_none, alone_some}
use Rattle.spk.proofs.Exactly.{way_refused}
use Rattle.spk.proofs.Order.{asked_same, asked_unfit, asked_nan, asked_choice}

-- ---- an answer that names a segment was given by it
-- neither zeros for the same body nor a refusal
abbrev pub by_state : Way → Bool
by_state ways.Same = false
by_state (ways.Forward i) = true
by_state (ways.Reversed i) = true
by_state ways.Chained = true
by_state (ways.Refused r) = false

pub by_state_open : (w : Way) → by_state w ≡ true → is_refused w ≡ false
by_state_open ways.Same t = refl
by_state_open (ways.Forward i) t = refl
by_state_open (ways.Reversed i) t = refl
by_state_open ways.Chained t = refl
by_state_open (ways.Refused r) t = sym t

same_no : by_state same_answer.way ≡ false
unfolding same_answer
same_no = refl

refused_no : (r : Refusal) → by_state (refused_answer r).way ≡ false
unfolding refused_answer
refused_no r = refl

-- a way that is neither is not such an answer's
not_by : {X : Type 0} (a : Answer) (w : Way) → by_state a.way ≡ false → by_state w ≡ true → a.way ≡ w → X
not_by a w f t e = absurd (true≢false (sym t ∙ ap by_state (sym e) ∙ f))

settled_way : (way : Way) (e : Result Given Refusal) (w : Way) → by_state w ≡ true → (settled way e).way ≡ w → way ≡ w
unfolding settled
settled_way way (Err r) w t h = not_by (refused_answer r) w (refused_no r) t h
settled_way way (Ok g) w t h = go (finite_state g.state) h
  where
    go : (b : Bool) → (cond b (answer_of way g) (refused_answer NotFinite)).way ≡ w → way ≡ w
    go true e = e
    go false e = not_by (refused_answer NotFinite) w (refused_no NotFinite) t e

module _ (limit : ℕ) (ev : Evaluation) (segs : List Segment) (n : ℕ) (m : Memory) (q : Question) where
  -- an answer that is no refusal, of two bodies, is past the first three tests
  pub open_answered : is_same q ≡ false → is_refused (asked limit ev segs n m q).answer.way ≡ false → Open limit n q
  open_answered e h =
      elim (dec_lt limit n) [
        | yes l ↦ refused TableUnfit (asked_unfit limit ev segs n m q (forward_in segs n m q) e l)
        | no g ↦
            let le : n ≤ limit = omega arith in
            by_test_lem (is_nan q.et) (λ d. refused EpochNan (asked_nan limit ev segs n m q (forward_in segs n m q) e le d)) (λ d. record { other = e; fits = le; number = d })
      ]
    where
      refused : (r : Refusal) → asked limit ev segs n m q ≡ record { answer = refused_answer r; memory = m } → Open limit n q
      refused r x = absurd (true≢false (sym (ap is_refused (ap (λ (a : Asked). a.answer.way) x ∙ way_refused r)) ∙ h))

  -- so is one that names a segment or is chained
  pub open_by : (w : Way) → by_state w ≡ true → (asked limit ev segs n m q).answer.way ≡ w → Open limit n q
  open_by w t h =
      open_answered
      (by_test_lem (is_same q)
      (λ e. not_by same_answer w same_no t (ap (λ (a : Asked). a.answer.way) (sym (asked_same limit ev segs n m q (forward_in segs n m q) e)) ∙ h)) (λ e. e))
      (ap is_refused h ∙ by_state_open w t)

  named : (w : Way) → by_state w ≡ true → (asked limit ev segs n m q).answer.way ≡ w → (found_by ev segs n q (forward_in segs n m q)).way ≡ w
  named w t h =
      let o = open_by w t h in
      settled_way _ _ w t (ap (λ (x : Asked). x.answer.way) (sym (asked_choice limit ev segs n m q (forward_in segs n m q) o.other o.fits o.number)) ∙ h)

  pub named_forward : (i : ℕ) → (asked limit ev segs n m q).answer.way ≡ ways.Forward i → forward_in segs n m q ≡ Some i
  named_forward i h = go (forward_in segs n m q) refl (named (ways.Forward i) refl h)
    where
      back : (c : Option ℕ) → (backward ev segs n q c).way ≡ ways.Forward i → ⊥
      back (Some j) e = clash (cc)
      back None e = clash (cc)

      go : (c : Option ℕ) → forward_in segs n m q ≡ c → (found_by ev segs n q c).way ≡ ways.Forward i → forward_in segs n m q ≡ Some i
      go (Some j) e w = cc
      go None e w = absurd (back (last_reversed segs n q) w)

  pub named_reversed : (i : ℕ) → (asked limit ev segs n m q).answer.way ≡ ways.Reversed i → (forward_in segs n m q ≡ None) × (last_reversed segs n q ≡ Some i)
  named_reversed i h = go (forward_in segs n m q) refl (named (ways.Reversed i) refl h)
    where
      back : (c : Option ℕ) → last_reversed segs n q ≡ c → (backward ev segs n q c).way ≡ ways.Reversed i → last_reversed segs n q ≡ Some i
      back (Some j) e w = cc
      back None e w = clash (cc)

      go : (c : Option ℕ) → forward_in segs n m q ≡ c → (found_by ev segs n q c).way ≡ ways.Reversed i → (forward_in segs n m q ≡ None) × (last_reversed segs n q ≡ Some i)
      go (Some j) e w = clash (cc)
      go None e w = (e, back (last_reversed segs n q) refl w)

  pub named_chained : (asked limit ev segs n m q).answer.way ≡ ways.Chained → (forward_in segs n m q ≡ None) × (last_reversed segs n q ≡ None)
  named_chained h = go (forward_in segs n m q) refl (named ways.Chained refl h)
    where
      back : (c : Option ℕ) → last_reversed segs n q ≡ c → (backward ev segs n q c).way ≡ ways.Chained → last_reversed segs n q ≡ None
      back (Some j) e w = clash (cc)
      back None e w = e

      go : (c : Option ℕ) → forward_in segs n m q ≡ c → (found_by ev segs n q c).way ≡ ways.Chained → (forward_in segs n m q ≡ None) × (last_reversed segs n q ≡ None)
      go (Some j) e w = clash (cc)
      go None e w = (e, back (last_reversed segs n q) refl w)

by_way : (to : ℤ) (rot : Matrix) (a : Answer) (w : Way) (turn : Turn) → by_state w ≡ true → (turned_by turn to rot a).way ≡ w → a.way ≡ w
unfolding turned_by
by_way to rot a w Stands t h = h
by_way to rot a w Forth t h = settled_way a.way _ w t h
by_way to rot a w Back t h = settled_way a.way _ w t h
by_way to rot a w Never t h = not_by (refused_answer OtherFrame) w (refused_no OtherFrame) t h

-- turning an answer that is none of these leaves its way
pub turned_way : (wanted : Option ℤ) (rot : Matrix) (a : Answer) (w : Way) → by_state w ≡ true → (turned_answer wanted rot a).way ≡ w → a.way ≡ w
turned_way None rot a w t h = h
turned_way (Some to) rot a w t h =
    by_test_lem (is_refused a.way) (λ e. ap (λ (x : Answer). x.way) (sym (turned_by_lem to rot a true e)) ∙ h)
    (λ e. by_way to rot a w (turn_of (frame_of a) to) t (ap (λ (x : Answer). x.way) (sym (turned_by_lem to rot a false e)) ∙ h))

-- ---- what holds of the segments that a question evaluates, and implies something, makes that hold of them
module _ (limit : ℕ) (ev : Evaluation) (segs : List Segment) (n : ℕ) (m : Memory) (q : Question) (P Q : ℕ → Type 0) (f : (i : ℕ) → P i → Q i) where
  touched_back_lem : (c : Option ℕ) → touched_back ev segs n P q c → touched_back ev segs n Q q c
  touched_back_lem (Some i) t = f i t
  touched_back_lem None t =
      record { target = λ h. touched_on ev segs P Q f n (leg_from q) chain_limit (t.target h); center = λ a h. touched_on ev segs P Q f n (leg_from (swapped q)) chain_limit (t.center a h) }

  touched_by_lem : (c : Option ℕ) → touched_by ev segs n P q c → touched_by ev segs n Q q c
  touched_by_lem (Some i) t = f i t
  touched_by_lem None t = touched_back_lem (last_reversed segs n q) t

  touched_asked : Touched limit ev segs n m q P → Touched limit ev segs n m q Q
  touched_asked t o = touched_by_lem (forward_in segs n m q) (t o)

pub touched_replied : (limit : ℕ) (ev : Evaluation) (segs : List Segment) (n : ℕ) (m : Memory) (P Q : ℕ → Type 0) → ((i : ℕ) → P i → Q i) → (a : Asking)
    → TouchedReplied limit ev segs n m a P → TouchedReplied limit ev segs n m a Q
touched_replied limit ev segs n m P Q f (Plain q) t = touched_asked limit ev segs n m q P Q f t
touched_replied limit ev segs n m P Q f (InFrame q wanted rot) t = touched_asked limit ev segs n m q P Q f t
touched_replied limit ev segs n m P Q f (Single i et) t = λ e. f i (t e)

-- ---- two evaluations
module _ (limit : ℕ) (ev ev' : Evaluation) (segs : List Segment) (n : ℕ) (m : Memory) (q : Question) where
  alike_found : (c : Option ℕ) → found_by ev segs n q c ≡ found_by ev' segs n q c → asked_by limit ev segs n m q c ≡ asked_by limit ev' segs n m q c
  unfolding asked_by
  alike_found c e =
      ap
      (λ (f : Found).
      cond (is_same q) (record { answer = same_answer; memory = m })
      (first_of (case (ltb limit n) TableUnfit ∷ case (is_nan q.et) EpochNan ∷ []) (λ r. record { answer = refused_answer r; memory = m })
      (record { answer = answer_to f; memory = remembered segs m c }))) e

  -- the chain, by what its walks evaluate
  chain_alike : TouchedChain ev segs n (Alike ev ev' segs) q → chained ev segs n q ≡ chained ev' segs n q
  unfolding chained difference_of
  chain_alike t = go (to_zero ev segs n (leg_from q)) refl
    where
      target : to_zero ev segs n (leg_from q) ≡ to_zero ev' segs n (leg_from q)
      target = zero_alike ev ev' segs n (leg_from q) t.target

      go : (e : Result Given Refusal) → to_zero ev segs n (leg_from q) ≡ e
          → difference_of (to_zero ev segs n (leg_from q)) (to_zero ev segs n (leg_from (swapped q))) ≡ difference_of (to_zero ev' segs n (leg_from q)) (to_zero ev' segs n (leg_from (swapped q)))
      go (Ok x) u = ap₂ difference_of target (zero_alike ev ev' segs n (leg_from (swapped q)) (t.center (x, u)))
      go (Err r) u =
          ap (λ (e : Result Given Refusal). difference_of e (to_zero ev segs n (leg_from (swapped q)))) u
          ∙ ap (λ (e : Result Given Refusal). difference_of e (to_zero ev' segs n (leg_from (swapped q)))) (sym u ∙ target)

  back_alike : (c : Option ℕ) → touched_back ev segs n (Alike ev ev' segs) q c → backward ev segs n q c ≡ backward ev' segs n q c
  back_alike (Some i) t = ap (λ (x : Result Valued Refusal). record { way = ways.Reversed i; result = negated_of (yield_of (seg segs i) x) }) (t q.et)
  back_alike None t = ap (λ (x : Result Given Refusal). record { way = ways.Chained; result = x }) (chain_alike t)

  found_alike : (c : Option ℕ) → touched_by ev segs n (Alike ev ev' segs) q c → found_by ev segs n q c ≡ found_by ev' segs n q c
  found_alike (Some i) t = ap (λ (x : Result Valued Refusal). record { way = ways.Forward i; result = yield_of (seg segs i) x }) (t q.et)
  found_alike None t = back_alike (last_reversed segs n q) t

  -- any question, by the segments that it evaluates
  pub own_asked : Touched limit ev segs n m q (Alike ev ev' segs) → asked limit ev segs n m q ≡ asked limit ev' segs n m q
  own_asked t =
      by_test_lem (is_same q) (λ e. asked_same limit ev segs n m q choice e ∙ sym (asked_same limit ev' segs n m q choice e))
      (λ e.
      elim (dec_lt limit n) [
        | yes l ↦ asked_unfit limit ev segs n m q choice e l ∙ sym (asked_unfit limit ev' segs n m q choice e l)
        | no g ↦
            let le : n ≤ limit = omega arith in
            by_test_lem (is_nan q.et) (λ d. asked_nan limit ev segs n m q choice e le d ∙ sym (asked_nan limit ev' segs n m q choice e le d))
            (λ d. alike_found choice (found_alike choice (t (record { other = e; fits = le; number = d }))))
      ])
    where
      choice : Option ℕ
      choice = forward_in segs n m q

  -- an answer that names a segment forward
  pub own_forward : (i : ℕ) → (asked limit ev segs n m q).answer.way ≡ ways.Forward i → Alike ev ev' segs i
      → asked limit ev segs n m q ≡ asked limit ev' segs n m q
  own_forward i w e = own_asked (λ o. subst (touched_by ev segs n (Alike ev ev' segs) q) (sym (named_forward limit ev segs n m q i w)) e)

  -- an answer that names a segment reversed
  pub own_reversed : (i : ℕ) → (asked limit ev segs n m q).answer.way ≡ ways.Reversed i → Alike ev ev' segs i
      → asked limit ev segs n m q ≡ asked limit ev' segs n m q
  own_reversed i w e =
      let r = named_reversed limit ev segs n m q i w in
      own_asked
      (λ o. subst (touched_by ev segs n (Alike ev ev' segs) q) (sym r.0) (subst (touched_back ev segs n (Alike ev ev' segs) q) (sym r.1) e))

-- a segment alone, where it is evaluated
pub own_alone : (limit : ℕ) (ev ev' : Evaluation) (segs : List Segment) (n i : ℕ) (et : Float) → (Evaluates limit ev segs n i et → Alike ev ev' segs i)
    → alone_answer limit ev segs n i et ≡ alone_answer limit ev' segs n i et
own_alone limit ev ev' segs n i et t =
    elim (dec_lt limit n) [
      | yes l ↦ alone_unfit limit ev n i et (seg segs i) l ∙ sym (alone_unfit limit ev' n i et (seg segs i) l)
      | no g ↦
          let le : n ≤ limit = omega arith in
          by_test_lem (is_nan et) (λ d. alone_nan limit ev n i et (seg segs i) le d ∙ sym (alone_nan limit ev' n i et (seg segs i) le d))
          (λ d.
          elim (dec_lt i n) [
            | yes b ↦
                alone_some limit ev n i et (seg segs i) le d b
                ∙ ap (λ (e : Result Valued Refusal). settled (ways.Forward i) (yield_of (seg segs i) e)) (t (record { past = record { fits = le; number = d }; below = b }) et)
                ∙ sym (alone_some limit ev' n i et (seg segs i) le d b)
            | no b ↦
                let far : n ≤ i = omega arith in
                alone_none limit ev n i et (seg segs i) le d far ∙ sym (alone_none limit ev' n i et (seg segs i) le d far)
          ])
    ]

-- a question of any kind
pub own_replied : (limit : ℕ) (ev ev' : Evaluation) (segs : List Segment) (n : ℕ) (m : Memory) (a : Asking) → TouchedReplied limit ev segs n m a (Alike ev ev' segs)
    → replied limit ev segs n m a ≡ replied limit ev' segs n m a
own_replied limit ev ev' segs n m (Plain q) t = own_asked limit ev ev' segs n m q t
own_replied limit ev ev' segs n m (InFrame q wanted rot) t = ap (turned_asked wanted rot) (own_asked limit ev ev' segs n m q t)
own_replied limit ev ev' segs n m (Single i et) t = ap (λ (x : Answer). record { answer = x; memory = m }) (own_alone limit ev ev' segs n i et t)
