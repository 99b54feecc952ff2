-- The frame of an answer over a lent table: `spk` has each of these for any evaluation, and `indexed` that a question through an index is answered as
-- without one. Assumes nothing.
use Prim.Native.Nat.{ℕ, zero, suc}
use mathlib.Core.Path.{◌≡◌, refl, sym, ap, ap₂, ◌∙◌}
use mathlib.Core.Bool.{Bool, cond, ◌&&◌, true≢false}
use mathlib.Core.Logic.{⊎_elim}
use mathlib.Core.List.{List, [], ◌∷◌}
use lib.Dec.{ltb}
use lib.Ieee.{is_nan}
use lib.ListN.{length}
use Rattle.refusal.specs.declared.Refusal.TheVariants.{TableUnfit, EpochNan}
use Rattle.refusal.specs.Order.{case, first_of}
use Rattle.daf.specs.declared.Family.TheVariants.{Spk}
use Rattle.segment.specs.Evaluating.{evaluated}
use Rattle.segment.specs.declared.Segment.{Segment}
use Rattle.std.proofs.Common.{Option, Some, None}
use Rattle.table.specs.Choosing.{last_in}
use Rattle.std.specs.Option.{option_or}
use Rattle.table.specs.Segments.{seg}
use Rattle.table.specs.Places.{limit_of}
use Rattle.chain.specs.Step.{Evaluation, yield_of}
use Rattle.chain.proofs.Framed.{is_framed}
use Rattle.spk.specs.declared.Question.{Question}
use Rattle.spk.specs.declared.Asked.{Asked}
use Rattle.spk.specs.declared.Way.TheVariants.{Forward, Reversed}
use Rattle.spk.specs.Questions.{is_same, swapped, hits, serves}
use Rattle.spk.specs.Choosing.{Memory, recall, last_reversed, forward_in, remembered_at}
use Rattle.spk.specs.Answers.{refused_answer, same_answer, negated_of}
use Rattle.spk.specs.Asking.{Found, backward, answer_to, asked_by, asked}
use Rattle.spk.specs.Turning.{turned_asked}
use Rattle.spk.specs.Runs.{InFrame}
use Rattle.spk.proofs.ExactlyIn.{in_stands}
use Rattle.spk.proofs.Frames.{frame_forward, frame_reversed, frame_chained, frame_same, frame_some}
use Rattle.spk.proofs.InKernel.{framed_21}
use Rattle.spk.proofs.OwnBytes.{named_forward, named_reversed, turned_way}
use Rattle.indexed.proofs.Asking.{replied_same}
use Rattle.demands.specs.Demands.{lent_asked}
use Rattle.demands.specs.Frames.{LentSegmentFrame, LentChainFrame, LentSameFrame, LentSomeFrame, LentStands, LentOtherFrame, ChosenAlike, LentOwnFrame, SameAskedIn, IndexedOtherFrame}
use Rattle.demands.proofs.Indexed.{right, same_asked}

-- ---- the frame of an answer
pub lent_segment_frame : LentSegmentFrame
lent_segment_frame k segs n m q i by =
    ⊎_elim (frame_forward (limit_of (length segs)) (evaluated Spk k) segs n m q i) (frame_reversed (limit_of (length segs)) (evaluated Spk k) segs n m q i) by

pub lent_chain_frame : LentChainFrame
lent_chain_frame k segs n m q h = frame_chained (limit_of (length segs)) (evaluated Spk k) segs n m q h

pub lent_same_frame : LentSameFrame
lent_same_frame k segs n m q e = frame_same (limit_of (length segs)) (evaluated Spk k) segs n m q e

pub lent_some_frame : LentSomeFrame
lent_some_frame k segs n m q h e = true≢false (sym (frame_some (limit_of (length segs)) (evaluated Spk k) segs n m q h) ∙ ap is_framed e)

-- ---- in a frame
pub lent_stands : LentStands
lent_stands k segs n m q rot f e = in_stands (limit_of (length segs)) (evaluated Spk k) segs n m q rot f e

pub lent_other_frame : LentOtherFrame
lent_other_frame k segs n m q wanted rot = framed_21 k (limit_of (length segs)) segs n m q wanted rot

-- ---- own frame
hits_alike : (q : Question) (s s' : Segment) → ChosenAlike s s' → hits q s ≡ hits q s'
hits_alike q s s' a =
    let t = a.target in
    let c = a.center in
    let f = a.first in
    let l = a.last in
    cc

serves_alike : (q : Question) (s s' : Segment) → ChosenAlike s s' → serves q s ≡ serves q s'
serves_alike q s s' a = ap₂ ◌&&◌ a.marked (hits_alike q s s' a)

module _ (segs segs' : List Segment) (alike : (j : ℕ) → ChosenAlike (seg segs j) (seg segs' j)) (n : ℕ) where
  last_alike : (q : Question) (r : ℕ) → last_in (hits q) segs r ≡ last_in (hits q) segs' r
  unfolding last_in
  last_alike q zero = refl
  last_alike q (suc r) = ap₂ (λ (b : Bool) (c : Option ℕ). cond b (Some r) c) (hits_alike q (seg segs r) (seg segs' r) (alike r)) (last_alike q r)

  recall_alike : (m : Memory) (q : Question) → recall segs n m q ≡ recall segs' n m q
  unfolding recall
  recall_alike None q = refl
  recall_alike (Some i) q = ap (λ (b : Bool). cond (ltb i n && b) (Some i) None) (serves_alike q (seg segs i) (seg segs' i) (alike i))

  forward_alike : (m : Memory) (q : Question) → forward_in segs n m q ≡ forward_in segs' n m q
  unfolding forward_in
  forward_alike m q = ap₂ option_or (recall_alike m q) (last_alike q n)

  module _ (limit : ℕ) (ev : Evaluation) (m : Memory) (q : Question) (i : ℕ) (same : seg segs i ≡ seg segs' i) where
    -- past the first three tests, what was found and is remembered
    abbrev past : Found → Memory → Asked
    past f kept =
        cond (is_same q) (record { answer = same_answer; memory = m })
        (first_of (case (ltb limit n) TableUnfit ∷ case (is_nan q.et) EpochNan ∷ []) (λ r. record { answer = refused_answer r; memory = m })
        (record { answer = answer_to f; memory = kept }))

    own_forward : forward_in segs n m q ≡ Some i → asked limit ev segs n m q ≡ asked limit ev segs' n m q
    unfolding asked_by
    own_forward e =
        ap (asked_by limit ev segs n m q) e
        ∙ ap (λ (s : Segment). past (record { way = Forward i; result = yield_of s (ev s i q.et) }) (remembered_at m i s)) same
        ∙ ap (asked_by limit ev segs' n m q) (sym e ∙ forward_alike m q)

    own_back : last_reversed segs n q ≡ Some i → backward ev segs n q (last_reversed segs n q) ≡ backward ev segs' n q (last_reversed segs' n q)
    own_back e =
        ap (backward ev segs n q) e
        ∙ ap (λ (s : Segment). record { way = Reversed i; result = negated_of (yield_of s (ev s i q.et)) }) same
        ∙ ap (backward ev segs' n q) (sym e ∙ last_alike (swapped q) n)

    own_reversed : forward_in segs n m q ≡ None → last_reversed segs n q ≡ Some i → asked limit ev segs n m q ≡ asked limit ev segs' n m q
    unfolding asked_by
    own_reversed e f =
        ap (asked_by limit ev segs n m q) e ∙ ap (λ (x : Found). past x m) (own_back f) ∙ ap (asked_by limit ev segs' n m q) (sym e ∙ forward_alike m q)

pub lent_own_frame : LentOwnFrame
lent_own_frame k segs segs' long alike n m q wanted rot i by same =
    ap (turned_asked wanted rot)
    (⊎_elim (λ w. forth (turned_way wanted rot _ (Forward i) refl w)) (λ w. back (turned_way wanted rot _ (Reversed i) refl w)) by
    ∙ ap (λ (l : ℕ). asked (limit_of l) (evaluated Spk k) segs' n m q) long)
  where
    forth : (lent_asked k segs n m q).answer.way ≡ Forward i → lent_asked k segs n m q ≡ asked (limit_of (length segs)) (evaluated Spk k) segs' n m q
    forth w = own_forward segs segs' alike n (limit_of (length segs)) (evaluated Spk k) m q i same (named_forward (limit_of (length segs)) (evaluated Spk k) segs n m q i w)

    back : (lent_asked k segs n m q).answer.way ≡ Reversed i → lent_asked k segs n m q ≡ asked (limit_of (length segs)) (evaluated Spk k) segs' n m q
    back w =
        let r = named_reversed (limit_of (length segs)) (evaluated Spk k) segs n m q i w in
        own_reversed segs segs' alike n (limit_of (length segs)) (evaluated Spk k) m q i same r.0 r.1

-- ---- through an index
pub same_asked_in : SameAskedIn
same_asked_in k before spare segs ix n left now m q wanted rot =
    replied_same (limit_of (length segs)) (evaluated Spk now) segs n ix (right Spk k before spare segs ix n left) m (InFrame q wanted rot)

pub indexed_other_frame : IndexedOtherFrame
indexed_other_frame k before spare segs ix n left now m q wanted rot =
    let e = ap (λ (a : Asked). a.answer.way) (same_asked_in k before spare segs ix n left now m q wanted rot) in
    let w = lent_other_frame now segs n m q wanted rot in
    (λ x. e ∙ w.0 x, λ h. w.1 (sym e ∙ h))
