-- Questions through an index: a law for each way through the code; and through an index as an opening fills it every question is answered as
-- without one. Assumes nothing.
use mathlib.Core.Path.{◌≡◌, refl, sym, ap, ap₂, ◌∙◌}
use mathlib.Core.Bool.{Bool, true, false, cond}
use mathlib.Core.List.{List, [], ◌∷◌, map}
use Prim.Native.Nat.{ℕ, ◌<◌}
use native.Mathlib.Omega.{arith}
use lib.ListN.{length}
use Rattle.bits.proofs.Tests.{by_test_lem, and_first, same_z_eq}
use Rattle.segment.specs.declared.Segment.{Segment}
use Rattle.std.proofs.Common.{Option, Some, None}
use Rattle.std.specs.Option.{option_or}
use Rattle.table.specs.Steps.{Within}
use Rattle.table.specs.Marks.{MarkedRight}
use Rattle.index.specs.Parts.{last_of, below_of, first_of, above_of, has_room, Roomy, RightIndex}
use Rattle.index.proofs.Right.{last_by_index}
use Rattle.index.proofs.Choices.{last_by_within}
use Rattle.index.proofs.Parts.{room_yes, length_last, length_first}
use Rattle.chain.specs.Step.{Evaluation}
use Rattle.spk.specs.declared.Question.{Question}
use Rattle.spk.specs.declared.Answer.{Answer}
use Rattle.spk.specs.declared.Asked.{Asked}
use Rattle.spk.specs.Questions.{hits, swapped}
use Rattle.spk.specs.Choosing.{Memory, recall, last_forward, last_reversed, forward_in, remembered}
use Rattle.spk.specs.Answers.{difference_of}
use Rattle.spk.specs.Asking.{Found, leg_from, chained, backward, answer_to, asked}
use Rattle.spk.specs.Steps.{early, early_or, back_or, ahead_or, asked_from}
use Rattle.spk.specs.Turning.{turned_asked}
use Rattle.spk.specs.Runs.{Asking, Plain, InFrame, Single, fresh, replied, run}
use Rattle.spk.proofs.Finding.{asked_early, late}
use Rattle.spk.proofs.Handed.{back_found, ahead_found}
use Rattle.spk.proofs.NoMemory.{no_memory}
use Rattle.indexed.specs.Asking.{last_found, forward_found, chained_by, backward_by, chosen_asked, asked_through, asked_with, replied_with, run_with}
use Rattle.indexed.proofs.Stepping.{to_zero_by_index}

-- ---- what the walk finds
pub last_within : (segs : List Segment) (n : ℕ) (ix : List ℕ) (q : Question) → Within n (last_found segs n ix q)
last_within segs n ix q = last_by_within (hits q) segs (below_of ix) n (last_of ix) q.target

-- ---- the question
module _ (limit : ℕ) (ev : Evaluation) (segs : List Segment) (n : ℕ) (ix : List ℕ) (m : Memory) (q : Question) where
  abbrev c : Option ℕ
  c = forward_found segs n ix m q

  ways : Option Answer → Asked
  ways o = early_or o m (chosen_asked ev segs n ix m q c)

  pub through_early : (a : Answer) → early limit n q ≡ Some a → record { answer = a; memory = m } ≡ asked_through limit ev segs n ix m q
  unfolding asked_through ways
  through_early a e = sym (ap ways e)

  pub by_choice : early limit n q ≡ None → (d : Option ℕ) → c ≡ d → chosen_asked ev segs n ix m q d ≡ asked_through limit ev segs n ix m q
  unfolding asked_through ways
  by_choice e d f = sym (ap ways e ∙ ap (chosen_asked ev segs n ix m q) f)

  -- what is found by the walk and the chain up the index handed in
  pub handed_through : asked_from limit ev segs n m q (last_found segs n ix) (chained_by ev segs n ix) ≡ asked_through limit ev segs n ix m q
  unfolding asked_from asked_through forward_found backward_by
  handed_through = refl

  rooms : Bool → Asked
  rooms b = cond b (asked_through limit ev segs n ix m q) (asked limit ev segs n m q)

  pub with_room : has_room n ix ≡ true → asked_through limit ev segs n ix m q ≡ asked_with limit ev segs n ix m q
  unfolding asked_with rooms
  with_room e = sym (ap rooms e)

  pub without_room : has_room n ix ≡ false → asked limit ev segs n m q ≡ asked_with limit ev segs n ix m q
  unfolding asked_with rooms
  without_room e = sym (ap rooms e)

-- ---- through an index as an opening fills it
-- what hits has the question's target
own : (q : Question) (s : Segment) → hits q s ≡ true → s.target ≡ q.target
own q s h = same_z_eq _ _ (and_first _ _ (and_first _ _ h))

module _ (ev : Evaluation) (segs : List Segment) (n : ℕ) (ix : List ℕ) (right : RightIndex segs n ix) (roomy : Roomy n ix) where
  last_some : 0 < length (last_of ix)
  last_some = let e = length_last ix in let b = roomy.bucket in omega arith

  first_some : 0 < length (first_of ix)
  first_some = let e = length_first ix in let b = roomy.bucket in omega arith

  -- THEOREM: the choice is that of the scan of all segments
  pub choice_by_index : (q : Question) → last_found segs n ix q ≡ last_forward segs n q
  choice_by_index q = last_by_index segs n (last_of ix) (below_of ix) right.down (hits q) q.target last_some (own q)

  -- THEOREM: the chain is that over all segments
  pub chain_by_index : (q : Question) → chained_by ev segs n ix q ≡ chained ev segs n q
  unfolding chained_by chained
  chain_by_index q =
      ap₂ difference_of (to_zero_by_index ev segs n (first_of ix) (above_of ix) right.up first_some (leg_from q))
      (to_zero_by_index ev segs n (first_of ix) (above_of ix) right.up first_some (leg_from (swapped q)))

  backward_same : (q : Question) → backward_by ev segs n ix q ≡ backward ev segs n q (last_reversed segs n q)
  unfolding backward_by
  backward_same q = ap₂ (back_or ev segs q) (chain_by_index q) (choice_by_index (swapped q)) ∙ back_found ev segs n q (last_reversed segs n q)

  forward_same : (m : Memory) (q : Question) → forward_found segs n ix m q ≡ forward_in segs n m q
  unfolding forward_found forward_in
  forward_same m q = ap (option_or (recall segs n m q)) (choice_by_index q)

  through_same : (limit : ℕ) (m : Memory) (q : Question) → asked_through limit ev segs n ix m q ≡ asked limit ev segs n m q
  through_same limit m q =
      go (early limit n q) refl
    where
      go : (o : Option Answer) → early limit n q ≡ o → asked_through limit ev segs n ix m q ≡ asked limit ev segs n m q
      go (Some a) e = sym (through_early limit ev segs n ix m q a e) ∙ asked_early limit ev segs n m q a e
      go None e =
          sym (by_choice limit ev segs n ix m q e (forward_in segs n m q) (forward_same m q))
          ∙ ap (λ (f : Found). record { answer = answer_to f; memory = remembered segs m (forward_in segs n m q) })
          (ap (λ (b : Found). ahead_or ev segs q b (forward_in segs n m q)) (backward_same q) ∙ ahead_found ev segs n q (forward_in segs n m q))
          ∙ late limit ev segs n m q e (forward_in segs n m q) refl

module _ (limit : ℕ) (ev : Evaluation) (segs : List Segment) (n : ℕ) (ix : List ℕ) (right : has_room n ix ≡ true → RightIndex segs n ix) where
  -- THEOREM: with an index that is right where it has room every question is answered as without one, and as much is remembered
  pub no_index : (m : Memory) (q : Question) → asked_with limit ev segs n ix m q ≡ asked limit ev segs n m q
  no_index m q =
      by_test_lem (has_room n ix)
      (λ y. sym (with_room limit ev segs n ix m q y) ∙ through_same ev segs n ix (right y) (room_yes n ix y) limit m q)
      (λ y. sym (without_room limit ev segs n ix m q y))

  pub replied_same : (m : Memory) (a : Asking) → replied_with limit ev segs n ix m a ≡ replied limit ev segs n m a
  replied_same m (Plain q) = no_index m q
  replied_same m (InFrame q wanted rot) = ap (turned_asked wanted rot) (no_index m q)
  replied_same m (Single i et) = refl

  -- THEOREM: a run of questions of every kind gives, question by question, what it gives without an index, whatever is remembered
  pub no_index_run : (m : Memory) (asks : List Asking) → run_with limit ev segs n ix m asks ≡ run limit ev segs n m asks
  unfolding run_with run
  no_index_run m [] = refl
  no_index_run m (a ∷ asks) =
      ap (λ (x : Asked). x.answer ∷ run_with limit ev segs n ix x.memory asks) (replied_same m a)
      ∙ ap (λ (l : List Answer). (replied limit ev segs n m a).answer ∷ l) (no_index_run (replied limit ev segs n m a).memory asks)

  -- THEOREM: where the marks are right too, what the definition with no memory and no index gives
  pub no_memory_no_index : MarkedRight segs n → (m : Memory) (asks : List Asking) → run_with limit ev segs n ix m asks ≡ map (fresh limit ev segs n) asks
  no_memory_no_index marked m asks = no_index_run m asks ∙ no_memory segs n marked limit ev m asks
