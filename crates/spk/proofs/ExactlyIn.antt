-- EXACTLY WHEN a question in a frame is refused: as the question itself is, then with 21, then with 15 of the turned state. Assumes nothing.
--     in_carried       any refusal but 15 and 21 is that of the question itself
--     in_21            21 is given exactly where the question is answered and its numbers are in several frames, or in one that can't be turned
--     in_15            15 is that of the question's state, or else of the turned one
--     in_apart         neither is ever given where the question itself is refused
--     in_stands        in the frame of its own numbers a question is answered as it is without a frame, bit for bit, whatever the frame is
--     turned_why       any answer in a frame is refused as it is itself, with 21, or with 15
--     in_other, in_zeros    no number but 10 to 15 and 21; six zeros and no segment
use Prim.Native.Nat.{ℕ}
use mathlib.Core.Path.{◌≡◌, refl, sym, ap, ◌∙◌, subst}
use mathlib.Core.Bool.{true, false, true≢false}
use mathlib.Core.Logic.{◌⊎◌, inl, inr, ⊎_elim, ◌↔◌}
use mathlib.Core.List.{List}
use native.Mathlib.Omega.{arith}
use lib.IntN.{ℤ}
use Rattle.bits.proofs.Tests.{by_test_lem}
use Rattle.frame.specs.declared.Given.{Given}
use Rattle.frame.specs.declared.Framed.{Framed}
use Rattle.frame.specs.declared.Framed.TheVariants.{One}
use Rattle.frame.specs.declared.Turn.{Turn}
use Rattle.frame.specs.declared.Turn.TheVariants.{Stands, Forth, Back, Never}
use Rattle.frame.specs.State.{finite_state}
use Rattle.frame.specs.Frame.{Matrix, turned_state, transpose_of}
use Rattle.frame.specs.Framed.{turn_of}
use Rattle.frame.specs.Given.{turned_given}
use Rattle.frame.proofs.Finite.{infinite_where, infinite_only}
use Rattle.frame.proofs.Laws.{same_frame}
use Rattle.refusal.specs.declared.Refusal.{Refusal}
use Rattle.refusal.specs.declared.Refusal.TheVariants.{NotFinite, OtherFrame}
use Rattle.refusal.specs.Numbers.{number_of}
use Rattle.segment.specs.declared.Segment.{Segment}
use Rattle.std.proofs.Common.{Ok}
use Rattle.chain.specs.Step.{Evaluation}
use Rattle.chain.specs.When.{OwnOnly}
use Rattle.chain.proofs.Ends.{clash}
use Rattle.spk.specs.declared.Question.{Question}
use Rattle.spk.specs.Choosing.{Memory}
use Rattle.spk.specs.declared.Answer.{Answer}
use Rattle.spk.specs.declared.Way.{Way}
use Rattle.spk.specs.declared.Way.TheVariants as ways
use Rattle.std.proofs.Common.{Option, Some, None}
use Rattle.spk.specs.Answers.{refused_answer, settled}
use Rattle.spk.specs.Asking.{asked}
use Rattle.spk.specs.Turning.{frame_of, is_refused, turned_by, turned_answer, asked_in}
use Rattle.spk.specs.When.{turns_by, answer, RefusedBy, When15, RefusedInBy, InNumber, Framing, When21, When15Turned}
use Rattle.spk.proofs.Single.{turned_by_lem, by_stands, by_forth, by_back, by_never}
use Rattle.spk.proofs.Settling.{settled_state, asked_eq}
use Rattle.spk.proofs.Exactly.{way_refused, answer_refused, settled_why, given_open, given_one, refused_zeros, exactly_15, no_other}

-- ---- any answer in a frame
-- a state that was settled is refused with 15 alone
settled_15 : (way : Way) (g : Given) (r : Refusal) → is_refused way ≡ false → (settled way (Ok g)).way ≡ ways.Refused r
    → (NotFinite ≡ r) × (settled way (Ok g) ≡ refused_answer r)
settled_15 way g r e h =
    ⊎_elim (λ p. given_open _ r p) (λ p. (p.3, settled_state way _ p.0 false p.1 p.2 ∙ ap refused_answer p.3)) (settled_why way (Ok g) r e h)

by_turn : (to : ℤ) (rot : Matrix) (a : Answer) (r : Refusal) (t : Turn) → is_refused a.way ≡ false → (turned_by t to rot a).way ≡ ways.Refused r
    → ((OtherFrame ≡ r) ⊎ (NotFinite ≡ r)) × (turned_by t to rot a ≡ refused_answer r)
unfolding turned_by
by_turn to rot a r Stands e h = absurd (true≢false (sym (ap is_refused h) ∙ e))
by_turn to rot a r Forth e h = let w = settled_15 a.way _ r e h in (inr w.0, w.1)
by_turn to rot a r Back e h = let w = settled_15 a.way _ r e h in (inr w.0, w.1)
by_turn to rot a r Never e h = let x = answer_refused OtherFrame r h in (inl x, ap refused_answer x)

-- why an answer in a frame is refused, where its own refusals stand with six zeros: as it is itself, with 21, or with 15; and then it has six zeros too
pub turned_why : (wanted : Option ℤ) (rot : Matrix) (a : Answer) (r : Refusal) → ((s : Refusal) → a.way ≡ ways.Refused s → a ≡ refused_answer s)
    → (turned_answer wanted rot a).way ≡ ways.Refused r
    → ((a.way ≡ ways.Refused r) ⊎ ((OtherFrame ≡ r) ⊎ (NotFinite ≡ r))) × (turned_answer wanted rot a ≡ refused_answer r)
turned_why None rot a r z h = (inl h, z r h)
turned_why (Some to) rot a r z h =
    by_test_lem (is_refused a.way)
    (λ e.
    let t = turned_by_lem to rot a true e in
    let w = ap (λ (x : Answer). x.way) (sym t) ∙ h in
    (inl w, t ∙ z r w))
    (λ e.
    let t = turned_by_lem to rot a false e in
    let w = by_turn to rot a r (turn_of (frame_of a) to) e (ap (λ (x : Answer). x.way) (sym t) ∙ h) in
    (inr w.0, t ∙ w.1))

-- neither 15 nor 21
abbrev pub Other : Refusal → Type 0
Other r = (NotFinite ≡ r → ⊥) × (OtherFrame ≡ r → ⊥)

module _ (limit : ℕ) (ev : Evaluation) (segs : List Segment) (n : ℕ) (m : Memory) (q : Question) (rot : Matrix) where
  abbrev a : Answer
  a = answer limit ev segs n m q

  -- the state, turned by a matrix to a frame
  abbrev turned : Matrix → ℤ → Given
  turned by to = turned_given by to a.given

  -- why an answer in a frame is refused
  data In-why (wanted : Option ℤ) (r : Refusal) : Type 0 where
    itself : RefusedBy limit ev segs n m q r → In-why wanted r
    apart : When21 limit ev segs n m q wanted rot → OtherFrame ≡ r → In-why wanted r
    infinite : When15Turned limit ev segs n m q wanted rot → NotFinite ≡ r → In-why wanted r

  by_matrix : (to : ℤ) (r : Refusal) (by : Matrix) → turns_by (turn_of (frame_of a) to) rot by → is_refused a.way ≡ false
      → (settled a.way (Ok (turned by to))).way ≡ ways.Refused r → In-why (Some to) r
  by_matrix to r by t e h =
      ⊎_elim (λ p. given_open _ r p)
      (λ p.
      infinite
      (record {
        framing = record { to = to; frame = refl; answered = e };
        by = by;
        turns = t;
        infinite = infinite_only (turned by to).state (ap (λ (g : Given). finite_state g.state) (given_one (turned by to) p.0 p.1) ∙ p.2);
      })
      p.3)
      (settled_why a.way (Ok (turned by to)) r e h)

  by_why : (to : ℤ) (r : Refusal) (t : Turn) → turn_of (frame_of a) to ≡ t → is_refused a.way ≡ false → (turned_by t to rot a).way ≡ ways.Refused r → In-why (Some to) r
  unfolding turned_by
  by_why to r Stands e f h = absurd (true≢false (sym (ap is_refused h) ∙ f))
  by_why to r Forth e f h = by_matrix to r rot (subst (λ (t : Turn). turns_by t rot rot) (sym e) refl) f h
  by_why to r Back e f h = by_matrix to r (transpose_of rot) (subst (λ (t : Turn). turns_by t rot (transpose_of rot)) (sym e) refl) f h
  by_why to r Never e f h = never (sym (way_refused OtherFrame) ∙ h)
    where
      never : ◌≡◌ {A = _} (ways.Refused OtherFrame) (ways.Refused r) → In-why (Some to) r
      never x = apart (record { framing = record { to = to; frame = refl; answered = f }; never = e }) (cc)

  in_why : (wanted : Option ℤ) (r : Refusal) → RefusedInBy limit ev segs n m q wanted rot r → In-why wanted r
  in_why None r h = itself h
  in_why (Some to) r h =
      by_test_lem (is_refused a.way) (λ e. itself (ap (λ (x : Answer). x.way) (sym (turned_by_lem to rot a true e)) ∙ h))
      (λ e. by_why to r (turn_of (frame_of a) to) refl e (ap (λ (x : Answer). x.way) (sym (turned_by_lem to rot a false e)) ∙ h))

  -- a refusal stays as it is
  refused_stays : (wanted : Option ℤ) (r : Refusal) → RefusedBy limit ev segs n m q r → (asked_in limit ev segs n m q wanted rot).answer ≡ refused_answer r
  refused_stays None r h = refused_zeros limit ev segs n m q r h
  refused_stays (Some to) r h = turned_by_lem to rot a true (ap is_refused h) ∙ refused_zeros limit ev segs n m q r h

  -- past it, the turn decides
  past : (wanted : Option ℤ) (w : Framing limit ev segs n m q wanted rot)
      → (asked_in limit ev segs n m q wanted rot).answer ≡ turned_by (turn_of (frame_of a) w.to) w.to rot a
  past wanted w = ap (λ (x : Option ℤ). turned_answer x rot a) w.frame ∙ turned_by_lem w.to rot a false w.answered

  apart_zeros : (wanted : Option ℤ) → When21 limit ev segs n m q wanted rot → (asked_in limit ev segs n m q wanted rot).answer ≡ refused_answer OtherFrame
  apart_zeros wanted w = past wanted w.framing ∙ by_never w.framing.to rot a _ w.never

  turned_zeros : (wanted : Option ℤ) → When15Turned limit ev segs n m q wanted rot → (asked_in limit ev segs n m q wanted rot).answer ≡ refused_answer NotFinite
  turned_zeros wanted w = past wanted w.framing ∙ go (turn_of (frame_of a) to) refl w.turns
    where
      to : ℤ
      to = w.framing.to

      by : (x : Matrix) → x ≡ w.by → settled a.way (Ok (turned x to)) ≡ refused_answer NotFinite
      by x e =
          ap (λ (y : Matrix). settled a.way (Ok (turned y to))) e
          ∙ settled_state a.way _ (turned w.by to) false refl (infinite_where (turned_state w.by a.given.state) w.infinite)

      go : (t : Turn) → turn_of (frame_of a) to ≡ t → turns_by t rot w.by → turned_by (turn_of (frame_of a) to) to rot a ≡ refused_answer NotFinite
      go Stands e x = absurd x
      go Forth e x = by_forth to rot a _ e ∙ by rot x
      go Back e x = by_back to rot a _ e ∙ by (transpose_of rot) x
      go Never e x = absurd x

  -- **in-stands**: in the frame of its own numbers a question is answered as it is without a frame
  pub in_stands : (f : ℤ) → frame_of a ≡ One f → asked_in limit ev segs n m q (Some f) rot ≡ asked limit ev segs n m q
  in_stands f e =
      asked_eq _ _
      (by_test_lem (is_refused a.way) (λ t. turned_by_lem f rot a true t)
      (λ t. turned_by_lem f rot a false t ∙ by_stands f rot a _ (ap (λ (x : Framed). turn_of x f) e ∙ same_frame f))) refl

  module _ (wanted : Option ℤ) where
    in_whole : (r : Refusal) → In-why wanted r → (asked_in limit ev segs n m q wanted rot).answer ≡ refused_answer r
    in_whole r (itself h) = refused_stays wanted r h
    in_whole r (apart w x) = apart_zeros wanted w ∙ ap refused_answer x
    in_whole r (infinite w x) = turned_zeros wanted w ∙ ap refused_answer x

    in_given : (r : Refusal) → In-why wanted r → RefusedInBy limit ev segs n m q wanted rot r
    in_given r w = ap (λ (x : Answer). x.way) (in_whole r w) ∙ way_refused r

    -- with a refusal stand six zeros and no segment
    pub in_zeros : (r : Refusal) → RefusedInBy limit ev segs n m q wanted rot r → (asked_in limit ev segs n m q wanted rot).answer ≡ refused_answer r
    in_zeros r h = in_whole r (in_why wanted r h)

    -- a refusal that is neither 15 nor 21 is the question's own
    only_own : (r : Refusal) → Other r → In-why wanted r → RefusedBy limit ev segs n m q r
    only_own r o (itself h) = h
    only_own r o (apart w x) = absurd (o.1 x)
    only_own r o (infinite w x) = absurd (o.0 x)

    -- any refusal but 15 and 21, where it is exactly when: the question's own
    pub in_carried : {W : Type 0} (r : Refusal) → Other r → W ↔ RefusedBy limit ev segs n m q r → W ↔ RefusedInBy limit ev segs n m q wanted rot r
    in_carried r o w = (λ x. in_given r (itself (w.0 x)), λ h. w.1 (only_own r o (in_why wanted r h)))

    -- what the question itself is never refused with, and is neither 15 nor 21, it is not in a frame
    pub in_never : (r : Refusal) → Other r → (RefusedBy limit ev segs n m q r → ⊥) → RefusedInBy limit ev segs n m q wanted rot r → ⊥
    in_never r o never h = never (only_own r o (in_why wanted r h))

    -- where the question itself is refused, neither 21 nor 15 of the turned state is given
    pub in_apart : (r : Refusal) → RefusedBy limit ev segs n m q r → Framing limit ev segs n m q wanted rot → ⊥
    in_apart r h w = true≢false (sym (ap is_refused h) ∙ w.answered)

    module _ (owns : OwnOnly ev) where
      -- **exactly-when**, 21
      pub in_21 : When21 limit ev segs n m q wanted rot ↔ RefusedInBy limit ev segs n m q wanted rot OtherFrame
      in_21 = (λ w. in_given OtherFrame (apart w refl), λ h. only (in_why wanted OtherFrame h))
        where
          only : In-why wanted OtherFrame → When21 limit ev segs n m q wanted rot
          only (itself x) = absurd (let b = (no_other limit ev segs n m q owns OtherFrame x).1 in omega arith)
          only (apart w x) = w
          only (infinite w x) = clash (cc)

      -- **exactly-when**, 15: of the state, or of the turned state
      pub in_15 : When15 limit ev segs n m q ⊎ When15Turned limit ev segs n m q wanted rot ↔ RefusedInBy limit ev segs n m q wanted rot NotFinite
      in_15 = (
        ⊎_elim (λ w. in_given NotFinite (itself ((exactly_15 limit ev segs n m q owns).0 w))) (λ w. in_given NotFinite (infinite w refl)),
        λ h. only (in_why wanted NotFinite h),
      )
        where
          only : In-why wanted NotFinite → When15 limit ev segs n m q ⊎ When15Turned limit ev segs n m q wanted rot
          only (itself x) = inl ((exactly_15 limit ev segs n m q owns).1 x)
          only (apart w x) = clash (cc)
          only (infinite w x) = inr w

      -- no refusal but 10 to 15 and 21 is ever given
      pub in_other : (r : Refusal) → RefusedInBy limit ev segs n m q wanted rot r → InNumber (number_of r)
      in_other r h = only (in_why wanted r h)
        where
          only : In-why wanted r → InNumber (number_of r)
          only (itself x) = inl (no_other limit ev segs n m q owns r x)
          only (apart w x) = inr (sym (ap number_of x))
          only (infinite w x) = let e = ap number_of x in inl (omega arith, omega arith)
