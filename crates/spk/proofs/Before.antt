-- AS BEFORE: a question, in a frame or in none, and a segment alone are answered as they were before a state said whether a record was stretched: way,
-- state, frame and memory are those of the definitions of then (`Before` in `specs`).
--     asked_as_before     a state
--     in_as_before        a state in a frame, or in none
--     alone_as_before     a segment alone
-- Assumes nothing.
use Prim.Native.Nat.{ℕ}
use mathlib.Core.Path.{◌≡◌, refl, ap, ap₂, ◌∙◌}
use mathlib.Core.Bool.{Bool, true, false, cond}
use mathlib.Core.List.{List, [], ◌∷◌}
use lib.Dec.{ltb, leb}
use lib.IntN.{ℤ}
use lib.Ieee.{Float, is_nan}
use Rattle.frame.specs.declared.Turn.{Turn}
use Rattle.frame.specs.declared.Turn.TheVariants.{Stands, Forth, Back, Never}
use Rattle.frame.specs.State.{finite_state}
use Rattle.frame.specs.Frame.{Matrix, transpose_of}
use Rattle.frame.specs.Framed.{turn_of}
use Rattle.frame.specs.Given.{turned_given}
use Rattle.refusal.specs.declared.Refusal.{Refusal}
use Rattle.refusal.specs.declared.Refusal.TheVariants.{TableUnfit, EpochNan, NoSegment, NotFinite, OtherFrame}
use Rattle.refusal.specs.Order.{case, first_of}
use Rattle.segment.specs.declared.Segment.{Segment}
use Rattle.std.proofs.Common.{Option, Some, None}
use Rattle.table.specs.Segments.{seg}
use Rattle.std.proofs.Common.{Result, Ok, Err}
use Rattle.frame.specs.declared.Given.{Given}
use Rattle.chain.specs.Step.{Evaluation, yield_of}
use Rattle.chain.specs.Walk.{to_zero}
use Rattle.chain.specs.Before.{old_yield_of, bare_given, bare, bare_evaluation}
use Rattle.chain.proofs.Before.{yield_as_before, zero_as_before}
use Rattle.spk.specs.declared.Question.{Question}
use Rattle.spk.specs.declared.Way.{Way}
use Rattle.spk.specs.declared.Way.TheVariants as ways
use Rattle.spk.specs.declared.Answer.{Answer}
use Rattle.spk.specs.declared.Asked.{Asked}
use Rattle.spk.specs.Questions.{is_same, swapped}
use Rattle.spk.specs.Choosing.{Memory, last_reversed, forward_in, remembered}
use Rattle.spk.specs.Answers.{answer_of, refused_answer, same_answer, settled, negated_of, difference_of}
use Rattle.spk.specs.Asking.{leg_from, chained, given_at, backward, found_by, answer_to, asked_by, asked}
use Rattle.spk.specs.Turning.{frame_of, is_refused, turned_by, turned_to, turned_answer, asked_in}
use Rattle.spk.specs.Alone.{alone_with, alone_answer}
use Rattle.spk.specs.Before.{OldAnswer, OldAsked, old_refused, old_same, old_settled, old_negated, old_difference, old_chained, old_backward, old_found, old_asked_by, old_asked, old_turned_by, old_turned, old_asked_in, old_alone, bare_answer, bare_asked}

refused_as : (r : Refusal) → bare_answer (refused_answer r) ≡ old_refused r
unfolding refused_answer
refused_as r = refl

same_as : bare_answer same_answer ≡ old_same
unfolding same_answer
same_as = refl

settled_as : (way : Way) (e : Result Given Refusal) → bare_answer (settled way e) ≡ old_settled way (bare e)
unfolding settled
settled_as way (Ok g) = go (finite_state g.state)
  where
    go : (b : Bool) → bare_answer (cond b (answer_of way g) (refused_answer NotFinite)) ≡ cond b (record { way = way; given = bare_given g }) (old_refused NotFinite)
    go true = refl
    go false = refused_as NotFinite
settled_as way (Err r) = refused_as r

negated_as : (e : Result Given Refusal) → bare (negated_of e) ≡ old_negated (bare e)
unfolding negated_of
negated_as (Ok g) = refl
negated_as (Err r) = refl

difference_as : (a b : Result Given Refusal) → bare (difference_of a b) ≡ old_difference (bare a) (bare b)
unfolding difference_of
difference_as (Ok x) (Ok y) = refl
difference_as (Ok x) (Err r) = refl
difference_as (Err r) b = refl

module _ (ev : Evaluation) (segs : List Segment) (n : ℕ) (q : Question) where
  chained_as : bare (chained ev segs n q) ≡ old_chained (bare_evaluation ev) segs n q
  unfolding chained
  chained_as =
      difference_as (to_zero ev segs n (leg_from q)) (to_zero ev segs n (leg_from (swapped q)))
      ∙ ap₂ old_difference (zero_as_before ev segs n (leg_from q)) (zero_as_before ev segs n (leg_from (swapped q)))

  back_as : (c : Option ℕ) → bare_answer (answer_to (backward ev segs n q c)) ≡ old_backward (bare_evaluation ev) segs n q c
  back_as (Some i) =
      settled_as (ways.Reversed i) (negated_of (given_at ev segs q i))
      ∙ ap (old_settled (ways.Reversed i)) (negated_as (given_at ev segs q i) ∙ ap old_negated (yield_as_before (seg segs i) (ev (seg segs i) i q.et)))
  back_as None = settled_as ways.Chained (chained ev segs n q) ∙ ap (old_settled ways.Chained) chained_as

  found_as : (c : Option ℕ) → bare_answer (answer_to (found_by ev segs n q c)) ≡ old_found (bare_evaluation ev) segs n q c
  found_as (Some i) =
      settled_as (ways.Forward i) (given_at ev segs q i) ∙ ap (old_settled (ways.Forward i)) (yield_as_before (seg segs i) (ev (seg segs i) i q.et))
  found_as None = back_as (last_reversed segs n q)

-- what the tests before the choice give, with the word left out
module _ (m : Memory) where
  with_memory : OldAnswer → OldAsked
  with_memory a = record { answer = a; memory = m }

  tests_as : (a b d : Bool) (x : Asked) (y : OldAsked) → bare_asked x ≡ y
      → bare_asked (cond a (record { answer = same_answer; memory = m }) (first_of (case b TableUnfit ∷ case d EpochNan ∷ []) (λ r. record { answer = refused_answer r; memory = m }) x))
      ≡ cond a (record { answer = old_same; memory = m }) (first_of (case b TableUnfit ∷ case d EpochNan ∷ []) (λ r. record { answer = old_refused r; memory = m }) y)
  unfolding with_memory
  tests_as true b d x y e = ap with_memory same_as
  tests_as false true d x y e = ap with_memory (refused_as TableUnfit)
  tests_as false false true x y e = ap with_memory (refused_as EpochNan)
  tests_as false false false x y e = e

-- ---- an answer in a frame
by_as : (turn : Turn) (to : ℤ) (rot : Matrix) (a : Answer) → bare_answer (turned_by turn to rot a) ≡ old_turned_by turn to rot (bare_answer a)
unfolding turned_by
by_as Stands to rot a = refl
by_as Forth to rot a = settled_as a.way (Ok (turned_given rot to a.given))
by_as Back to rot a = settled_as a.way (Ok (turned_given (transpose_of rot) to a.given))
by_as Never to rot a = refused_as OtherFrame

turned_as : (wanted : Option ℤ) (rot : Matrix) (a : Answer) → bare_answer (turned_answer wanted rot a) ≡ old_turned wanted rot (bare_answer a)
unfolding turned_to
turned_as None rot a = refl
turned_as (Some to) rot a = go (is_refused a.way)
  where
    go : (b : Bool) → bare_answer (cond b a (turned_by (turn_of (frame_of a) to) to rot a)) ≡ cond b (bare_answer a) (old_turned_by (turn_of (frame_of a) to) to rot (bare_answer a))
    go true = refl
    go false = by_as (turn_of (frame_of a) to) to rot a

module _ (limit : ℕ) (ev : Evaluation) (segs : List Segment) (n : ℕ) (m : Memory) (q : Question) where
  asked_as : (c : Option ℕ) → bare_asked (asked_by limit ev segs n m q c) ≡ old_asked_by limit (bare_evaluation ev) segs n m q c
  unfolding asked_by
  asked_as c =
      tests_as m (is_same q) (ltb limit n) (is_nan q.et) (record { answer = answer_to (found_by ev segs n q c); memory = remembered segs m c })
      (record { answer = old_found (bare_evaluation ev) segs n q c; memory = remembered segs m c })
      (ap (λ (a : OldAnswer). record { answer = a; memory = remembered segs m c }) (found_as ev segs n q c))

  -- **as before**: way, state, frame and memory of a question ..
  pub asked_as_before : bare_asked (asked limit ev segs n m q) ≡ old_asked limit (bare_evaluation ev) segs n m q
  asked_as_before = asked_as (forward_in segs n m q)

  -- .. in whatever frame it is asked
  pub in_as_before : (wanted : Option ℤ) (rot : Matrix) → bare_asked (asked_in limit ev segs n m q wanted rot) ≡ old_asked_in limit (bare_evaluation ev) segs n m q wanted rot
  in_as_before wanted rot =
      ap (λ (a : OldAnswer). record { answer = a; memory = (asked limit ev segs n m q).memory }) (turned_as wanted rot (asked limit ev segs n m q).answer)
      ∙ ap (λ (a : OldAsked). record { answer = old_turned wanted rot a.answer; memory = a.memory }) asked_as_before

pub alone_as_before : (limit : ℕ) (ev : Evaluation) (segs : List Segment) (n i : ℕ) (et : Float) → bare_answer (alone_answer limit ev segs n i et) ≡ old_alone limit (bare_evaluation ev) segs n i et
unfolding alone_with
alone_as_before limit ev segs n i et = go (ltb limit n) (is_nan et) (leb n i)
  where
    go : (a b d : Bool)
        → bare_answer (first_of (case a TableUnfit ∷ case b EpochNan ∷ case d NoSegment ∷ []) refused_answer (settled (ways.Forward i) (yield_of (seg segs i) (ev (seg segs i) i et))))
        ≡ first_of (case a TableUnfit ∷ case b EpochNan ∷ case d NoSegment ∷ []) old_refused (old_settled (ways.Forward i) (old_yield_of (seg segs i) (bare_evaluation ev (seg segs i) i et)))
    go true b d = refused_as TableUnfit
    go false true d = refused_as EpochNan
    go false false true = refused_as NoSegment
    go false false false =
        settled_as (ways.Forward i) (yield_of (seg segs i) (ev (seg segs i) i et)) ∙ ap (old_settled (ways.Forward i)) (yield_as_before (seg segs i) (ev (seg segs i) i et))
