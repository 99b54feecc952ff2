-- THE FRAME OF AN ANSWER is that of the segments that gave it.
--     frame_forward, frame_reversed    an answer that names a segment is in that segment's frame
--     frame_chained                    a chained one in the frames of the two walks, joined
--     frame_same                       same-body zeros are in J2000
--     frame_some                       an answer that is no refusal is in a frame, one or several
-- With `in_stands` (file `ExactlyIn`): a question that names the frame of the segment that answers gets its numbers as they stand. Assumes nothing.
use Prim.Native.Nat.{ℕ}
use mathlib.Core.Path.{◌≡◌, refl, sym, ap, ◌∙◌}
use mathlib.Core.Bool.{true, false, true≢false}
use mathlib.Core.List.{List}
use lib.IntN.{pos}
use Rattle.bits.proofs.Tests.{by_test_lem, same_z_eq, eq_same_z}
use Rattle.frame.specs.declared.Given.{Given}
use Rattle.frame.specs.declared.Framed.TheVariants.{One}
use Rattle.frame.specs.Framed.{j2000, joined}
use Rattle.segment.specs.declared.Segment.{Segment}
use Rattle.std.proofs.Common.{Option, Some, None}
use Rattle.table.specs.Segments.{seg}
use Rattle.chain.specs.Step.{Evaluation}
use Rattle.chain.specs.Walk.{is_zero}
use Rattle.chain.proofs.Ends.{clash}
use Rattle.chain.proofs.Framed.{is_framed, joined_left, joined_right, zero_framed}
use Rattle.spk.specs.declared.Question.{Question}
use Rattle.spk.specs.declared.Way.{Way}
use Rattle.spk.specs.declared.Way.TheVariants as ways
use Rattle.spk.specs.declared.Asked.{Asked}
use Rattle.spk.specs.Questions.{is_same, swapped}
use Rattle.spk.specs.Choosing.{Memory, last_reversed, forward_in}
use Rattle.spk.specs.Asking.{leg_from}
use Rattle.spk.specs.Answers.{same_answer}
use Rattle.spk.specs.Turning.{frame_of, is_refused}
use Rattle.spk.specs.When.{Arrives, answer, Gives, by_forward, by_reversed, by_chain}
use Rattle.spk.proofs.Order.{asked_same}
use Rattle.spk.proofs.Exactly.{answered_gives}
use Rattle.spk.proofs.OwnBytes.{by_state, by_state_open, open_answered, open_by, named_forward, named_reversed, named_chained}

-- a choice is one segment
pub at_eq : (i j : ℕ) → ◌≡◌ {A = Option ℕ} (Some i) (Some j) → i ≡ j
at_eq i j h = cc

pub at_none : {X : Type 0} (i : ℕ) → ◌≡◌ {A = Option ℕ} (Some i) None → X
at_none i h = clash (cc)

module _ (limit : ℕ) (ev : Evaluation) (segs : List Segment) (n : ℕ) (m : Memory) (q : Question) where
  pub gives : (w : Way) → by_state w ≡ true → (answer limit ev segs n m q).way ≡ w → Gives limit ev segs n m q (answer limit ev segs n m q).given
  gives w t h = answered_gives limit ev segs n m q (open_by limit ev segs n m q w t h) (ap is_refused h ∙ by_state_open w t)

  -- the frame of segment j, which is segment i
  of_segment : (i j : ℕ) → i ≡ j → One (seg segs j).frame ≡ One (seg segs i).frame
  of_segment i j e = ap (λ (k : ℕ). One (seg segs k).frame) (sym e)

  pub frame_forward : (i : ℕ) → (answer limit ev segs n m q).way ≡ ways.Forward i → frame_of (answer limit ev segs n m q) ≡ One (seg segs i).frame
  frame_forward i h = go (gives (ways.Forward i) refl h)
    where
      is : forward_in segs n m q ≡ Some i
      is = named_forward limit ev segs n m q i h

      go : {g : Given} → Gives limit ev segs n m q g → g.frame ≡ One (seg segs i).frame
      go (by_forward j x e v z) = ap (λ (g : Given). g.frame) (sym z) ∙ of_segment i j (at_eq i j (sym is ∙ e))
      go (by_reversed j x e f v z) = at_none i (sym is ∙ e)
      go (by_chain c a b z) = at_none i (sym is ∙ c.forward)

  pub frame_reversed : (i : ℕ) → (answer limit ev segs n m q).way ≡ ways.Reversed i → frame_of (answer limit ev segs n m q) ≡ One (seg segs i).frame
  frame_reversed i h = go (gives (ways.Reversed i) refl h)
    where
      is : (forward_in segs n m q ≡ None) × (last_reversed segs n q ≡ Some i)
      is = named_reversed limit ev segs n m q i h

      go : {g : Given} → Gives limit ev segs n m q g → g.frame ≡ One (seg segs i).frame
      go (by_forward j x e v z) = at_none j (sym e ∙ is.0)
      go (by_reversed j x e f v z) = ap (λ (g : Given). g.frame) (sym z) ∙ of_segment i j (at_eq i j (sym is.1 ∙ f))
      go (by_chain c a b z) = at_none i (sym is.1 ∙ c.reversed)

  pub frame_chained : (answer limit ev segs n m q).way ≡ ways.Chained
      → (a : Arrives ev segs n q) × (b : Arrives ev segs n (swapped q)) × (frame_of (answer limit ev segs n m q) ≡ joined a.0.frame b.0.frame)
  frame_chained h = go (gives ways.Chained refl h)
    where
      is : (forward_in segs n m q ≡ None) × (last_reversed segs n q ≡ None)
      is = named_chained limit ev segs n m q h

      go : {g : Given} → Gives limit ev segs n m q g → (a : Arrives ev segs n q) × (b : Arrives ev segs n (swapped q)) × (g.frame ≡ joined a.0.frame b.0.frame)
      go (by_forward j x e v z) = at_none j (sym e ∙ is.0)
      go (by_reversed j x e f v z) = at_none j (sym f ∙ is.1)
      go (by_chain c a b z) = (a, b, ap (λ (g : Given). g.frame) (sym z))

  pub frame_same : is_same q ≡ true → frame_of (answer limit ev segs n m q) ≡ One j2000
  unfolding same_answer
  frame_same e = ap (λ (a : Asked). frame_of a.answer) (asked_same limit ev segs n m q _ e)

  -- two bodies are not both body 0
  not_both : is_same q ≡ false → is_zero (leg_from q) ≡ true → is_zero (leg_from (swapped q)) ≡ false
  not_both e z =
      by_test_lem (is_zero (leg_from (swapped q)))
      (λ y. absurd (true≢false (sym (eq_same_z q.target q.center (same_z_eq q.target (pos 0) z ∙ sym (same_z_eq q.center (pos 0) y))) ∙ e))) (λ y. y)

  pub frame_some : is_refused (answer limit ev segs n m q).way ≡ false → is_framed (frame_of (answer limit ev segs n m q)) ≡ true
  frame_some h =
      by_test_lem (is_same q) (λ e. ap is_framed (frame_same e)) (λ e. go e (answered_gives limit ev segs n m q (open_answered limit ev segs n m q e h) h))
    where
      go : {g : Given} → is_same q ≡ false → Gives limit ev segs n m q g → is_framed g.frame ≡ true
      go o (by_forward j x e v z) = ap (λ (g : Given). is_framed g.frame) (sym z)
      go o (by_reversed j x e f v z) = ap (λ (g : Given). is_framed g.frame) (sym z)
      go o (by_chain c a b z) =
          ap (λ (g : Given). is_framed g.frame) (sym z)
          ∙ by_test_lem (is_zero (leg_from q))
          (λ y. joined_right a.0.frame b.0.frame (zero_framed ev segs n (leg_from (swapped q)) b.0 (not_both o y) b.1))
          (λ y. joined_left a.0.frame b.0.frame (zero_framed ev segs n (leg_from q) a.0 y a.1))
