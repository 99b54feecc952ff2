-- WHETHER AN ANSWER WAS STRETCHED.
--     word_forward, word_reversed    an answer that names a segment says what that segment says
--     word_chained                   a chained one says yes exactly where a segment that entered one of the two sums was stretched
--     word_same                      same-body zeros say no
--     word_refused                   a refusal says no, also in a frame (`in_refused`) and of a segment alone (`alone_refused`)
--     word_in                        in a frame an answer says what it says without
--     word_alone                     a segment alone says what it says in an answer
-- Assumes nothing.
use Prim.Native.Nat.{ℕ}
use mathlib.Core.Path.{◌≡◌, refl, sym, ap, ◌∙◌, subst}
use mathlib.Core.Bool.{Bool, true, false, cond, ◌||◌, true≢false}
use mathlib.Core.Logic.{◌↔◌, inl, inr, ⊎_elim}
use mathlib.Core.List.{List, [], ◌∷◌}
use lib.Dec.{ltb, leb}
use lib.IntN.{ℤ}
use lib.Ieee.{Float, is_nan}
use Rattle.bits.proofs.Tests.{or_left, or_right}
use Rattle.frame.specs.declared.Given.{Given}
use Rattle.frame.specs.declared.Turn.{Turn}
use Rattle.frame.specs.declared.Turn.TheVariants.{Stands, Forth, Back, Never}
use Rattle.frame.specs.Frame.{Matrix, transpose_of}
use Rattle.frame.specs.Framed.{turn_of}
use Rattle.frame.specs.Given.{turned_given}
use Rattle.refusal.specs.declared.Refusal.{Refusal}
use Rattle.refusal.specs.declared.Refusal.TheVariants.{TableUnfit, EpochNan, NoSegment}
use Rattle.refusal.specs.Order.{case, first_of}
use Rattle.segment.specs.declared.Segment.{Segment}
use Rattle.std.proofs.Common.{Option, Some, None, Result, Ok}
use Rattle.segment.specs.declared.Valued.{Valued}
use Rattle.table.specs.Segments.{seg}
use Rattle.chain.specs.Step.{Evaluation, yield_of}
use Rattle.chain.proofs.Entered.{or_one, zero_only, zero_where}
use Rattle.spk.specs.declared.Question.{Question}
use Rattle.spk.specs.declared.Way.TheVariants as ways
use Rattle.spk.specs.declared.Answer.{Answer}
use Rattle.spk.specs.declared.Asked.{Asked}
use Rattle.spk.specs.Questions.{is_same, swapped}
use Rattle.spk.specs.Choosing.{Memory, last_reversed, forward_in}
use Rattle.spk.specs.Asking.{leg_from}
use Rattle.spk.specs.Answers.{refused_answer, same_answer, stretched_of, settled}
use Rattle.spk.specs.Turning.{frame_of, is_refused, turned_by, turned_to, turned_answer, asked_in}
use Rattle.spk.specs.Alone.{alone_with, alone_answer}
use Rattle.spk.specs.When.{Arrives, answer, Gives, by_forward, by_reversed, by_chain, RefusedBy, RefusedInBy, AloneBy}
use Rattle.spk.specs.Words.{Saying, ChainStretches}
use Rattle.spk.proofs.Order.{asked_same}
use Rattle.spk.proofs.Exactly.{settled_gives, given_one, yield_gives, refused_zeros}
use Rattle.spk.proofs.ExactlyIn.{in_zeros}
use Rattle.spk.proofs.ExactlyAlone.{alone_zeros}
use Rattle.spk.proofs.OwnBytes.{named_forward, named_reversed, named_chained}
use Rattle.spk.proofs.Frames.{at_eq, at_none, gives}

-- a refusal's
refused_word_lem : (r : Refusal) → stretched_of (refused_answer r) ≡ false
unfolding refused_answer
refused_word_lem r = refl

word_of : {g h : Given} → g ≡ h → g.stretched ≡ h.stretched
word_of e = ap (λ (x : Given). x.stretched) e

module _ (limit : ℕ) (ev : Evaluation) (segs : List Segment) (n : ℕ) (m : Memory) (q : Question) where
  -- what segment j says, which is segment i
  saying : {i j : ℕ} {b : Bool} → i ≡ j → Saying ev segs j q.et b → Saying ev segs i q.et b
  saying {b = b} e s = subst (λ (k : ℕ). Saying ev segs k q.et b) (sym e) s

  pub word_forward : (i : ℕ) → (answer limit ev segs n m q).way ≡ ways.Forward i → Saying ev segs i q.et (stretched_of (answer limit ev segs n m q))
  word_forward i h = go (gives limit ev segs n m q (ways.Forward i) refl h)
    where
      is : forward_in segs n m q ≡ Some i
      is = named_forward limit ev segs n m q i h

      go : {g : Given} → Gives limit ev segs n m q g → Saying ev segs i q.et g.stretched
      go (by_forward j x e v z) = saying (at_eq i j (sym is ∙ e)) (x, v, word_of (sym z))
      go (by_reversed j x e f v z) = at_none i (sym is ∙ e)
      go (by_chain c a b z) = at_none i (sym is ∙ c.forward)

  pub word_reversed : (i : ℕ) → (answer limit ev segs n m q).way ≡ ways.Reversed i → Saying ev segs i q.et (stretched_of (answer limit ev segs n m q))
  word_reversed i h = go (gives limit ev segs n m q (ways.Reversed i) refl h)
    where
      is : (forward_in segs n m q ≡ None) × (last_reversed segs n q ≡ Some i)
      is = named_reversed limit ev segs n m q i h

      go : {g : Given} → Gives limit ev segs n m q g → Saying ev segs i q.et g.stretched
      go (by_forward j x e v z) = at_none j (sym e ∙ is.0)
      go (by_reversed j x e f v z) = saying (at_eq i j (sym is.1 ∙ f)) (x, v, word_of (sym z))
      go (by_chain c a b z) = at_none i (sym is.1 ∙ c.reversed)

  pub word_chained : (answer limit ev segs n m q).way ≡ ways.Chained → ChainStretches ev segs n q ↔ (stretched_of (answer limit ev segs n m q) ≡ true)
  word_chained h = go (gives limit ev segs n m q ways.Chained refl h)
    where
      is : (forward_in segs n m q ≡ None) × (last_reversed segs n q ≡ None)
      is = named_chained limit ev segs n m q h

      both : (a : Arrives ev segs n q) (b : Arrives ev segs n (swapped q)) → ChainStretches ev segs n q ↔ ((a.0.stretched || b.0.stretched) ≡ true)
      both a b = (
        ⊎_elim (λ s. or_left a.0.stretched b.0.stretched (zero_where ev segs n (leg_from q) a.0 a.1 s))
            (λ s. or_right a.0.stretched b.0.stretched (zero_where ev segs n (leg_from (swapped q)) b.0 b.1 s)),
        λ w. ⊎_elim (λ s. inl (zero_only ev segs n (leg_from q) a.0 refl a.1 s)) (λ s. inr (zero_only ev segs n (leg_from (swapped q)) b.0 refl b.1 s)) (or_one a.0.stretched b.0.stretched w),
      )

      go : {g : Given} → Gives limit ev segs n m q g → ChainStretches ev segs n q ↔ (g.stretched ≡ true)
      go (by_forward j x e v z) = at_none j (sym e ∙ is.0)
      go (by_reversed j x e f v z) = at_none j (sym f ∙ is.1)
      go (by_chain c a b z) = let w = both a b in (λ s. word_of (sym z) ∙ w.0 s, λ t. w.1 (word_of z ∙ t))

  pub word_same : is_same q ≡ true → stretched_of (answer limit ev segs n m q) ≡ false
  unfolding same_answer
  word_same e = ap (λ (a : Asked). stretched_of a.answer) (asked_same limit ev segs n m q _ e)

  pub word_refused : (r : Refusal) → RefusedBy limit ev segs n m q r → stretched_of (answer limit ev segs n m q) ≡ false
  word_refused r h = ap stretched_of (refused_zeros limit ev segs n m q r h) ∙ refused_word_lem r

-- ---- in a frame
turned_word : (rot : Matrix) (to : ℤ) (a : Answer) → is_refused (settled a.way (Ok (turned_given rot to a.given))).way ≡ false
    → stretched_of (settled a.way (Ok (turned_given rot to a.given))) ≡ stretched_of a
turned_word rot to a h =
    let s = settled_gives a.way (Ok (turned_given rot to a.given)) h in
    word_of s.2 ∙ word_of (sym (given_one (turned_given rot to a.given) s.0 s.1))

by_word : (turn : Turn) (to : ℤ) (rot : Matrix) (a : Answer) → is_refused (turned_by turn to rot a).way ≡ false → stretched_of (turned_by turn to rot a) ≡ stretched_of a
unfolding turned_by refused_answer
by_word Stands to rot a h = refl
by_word Forth to rot a h = turned_word rot to a h
by_word Back to rot a h = turned_word (transpose_of rot) to a h
by_word Never to rot a h = absurd (true≢false h)

-- an answer that is turned, or stands
to_word : (wanted : Option ℤ) (rot : Matrix) (a : Answer) → is_refused (turned_answer wanted rot a).way ≡ false → stretched_of (turned_answer wanted rot a) ≡ stretched_of a
unfolding turned_to
to_word None rot a h = refl
to_word (Some to) rot a h = go (is_refused a.way) h
  where
    go : (b : Bool) → is_refused (cond b a (turned_by (turn_of (frame_of a) to) to rot a)).way ≡ false → stretched_of (cond b a (turned_by (turn_of (frame_of a) to) to rot a)) ≡ stretched_of a
    go true e = refl
    go false e = by_word (turn_of (frame_of a) to) to rot a e

module _ (limit : ℕ) (ev : Evaluation) (segs : List Segment) (n : ℕ) (m : Memory) (q : Question) (wanted : Option ℤ) (rot : Matrix) where
  pub word_in : is_refused (asked_in limit ev segs n m q wanted rot).answer.way ≡ false → stretched_of (asked_in limit ev segs n m q wanted rot).answer ≡ stretched_of (answer limit ev segs n m q)
  word_in h = to_word wanted rot (answer limit ev segs n m q) h

  pub in_refused : (r : Refusal) → RefusedInBy limit ev segs n m q wanted rot r → stretched_of (asked_in limit ev segs n m q wanted rot).answer ≡ false
  in_refused r h = ap stretched_of (in_zeros limit ev segs n m q rot wanted r h) ∙ refused_word_lem r

-- ---- a segment alone
module _ (limit : ℕ) (ev : Evaluation) (segs : List Segment) (n i : ℕ) (et : Float) where
  pub word_alone : is_refused (alone_answer limit ev segs n i et).way ≡ false → Saying ev segs i et (stretched_of (alone_answer limit ev segs n i et))
  unfolding alone_with refused_answer
  word_alone h = go (ltb limit n) (is_nan et) (leb n i) h
    where
      one : Result Valued Refusal → Answer
      one e = settled (ways.Forward i) (yield_of (seg segs i) e)

      tests : Bool → Bool → Bool → Answer
      tests a b d = first_of (case a TableUnfit ∷ case b EpochNan ∷ case d NoSegment ∷ []) refused_answer (one (ev (seg segs i) i et))

      go : (a b d : Bool) → is_refused (tests a b d).way ≡ false → Saying ev segs i et (stretched_of (tests a b d))
      go true b d e = absurd (true≢false e)
      go false true d e = absurd (true≢false e)
      go false false true e = absurd (true≢false e)
      go false false false e =
          let s = settled_gives (ways.Forward i) (yield_of (seg segs i) (ev (seg segs i) i et)) e in
          let v = yield_gives (seg segs i) (ev (seg segs i) i et) s.0 s.1 in
          (v.0, v.1, word_of s.2 ∙ word_of (sym v.2))

  pub alone_refused : (r : Refusal) → AloneBy limit ev segs n i et r → stretched_of (alone_answer limit ev segs n i et) ≡ false
  alone_refused r h = ap stretched_of (alone_zeros limit ev segs n i et r h) ∙ refused_word_lem r
