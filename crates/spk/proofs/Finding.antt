-- Laws of the definitions of `Finding`: one for each way through the code, and that what is found so is what `Asking` and `Alone` define. Assumes nothing.
use mathlib.Core.Path.{◌≡◌, refl, sym, ap, ◌∙◌}
use mathlib.Core.Bool.{Bool, true, false, cond, ◌&&◌}
use mathlib.Core.List.{List, []}
use Prim.Native.Nat.{ℕ, ◌≤◌, ◌<◌}
use lib.Dec.{ltb, leb}
use lib.Ieee.{is_nan, Float}
use borrow.Author.Tests.{lt-ltb, ltb-true, ltb-false, leb-true, leb-false}
use Rattle.bits.proofs.Tests.{by_test_lem}
use Rattle.frame.specs.declared.Given.{Given}
use Rattle.refusal.specs.declared.Refusal.{Refusal}
use Rattle.segment.specs.declared.Segment.{Segment}
use Rattle.std.proofs.Common.{Option, Some, None}
use Rattle.table.specs.Segments.{seg}
use Rattle.table.specs.Steps.{ready, seg_or, Within, counted}
use Rattle.table.specs.Choosing.{last_in}
use Rattle.std.specs.Bool.{then_some}
use Rattle.std.specs.Option.{option_map}
use Rattle.std.specs.Result.{result_err}
use Rattle.table.proofs.Last.{last_chosen}
use Rattle.std.proofs.Common.{Result, Ok, Err}
use Rattle.chain.specs.Step.{Evaluation}
use Rattle.spk.specs.declared.Question.{Question}
use Rattle.spk.specs.declared.Answer.{Answer}
use Rattle.spk.specs.declared.Asked.{Asked}
use Rattle.spk.specs.Questions.{is_same, hits, serves}
use Rattle.spk.specs.Choosing.{Memory, recall, forward_in, remembered}
use Rattle.spk.specs.Answers.{refused_answer, same_answer, less_of, difference_of}
use Rattle.spk.specs.Asking.{found_by, answer_to, asked_by, asked}
use Rattle.spk.specs.Steps.{early, early_or}
use Rattle.spk.specs.Alone.{alone_with, alone_answer}
use Rattle.spk.proofs.Single.{alone_unfit, alone_nan, alone_none}
use Rattle.table.proofs.Early.{unless, ready_fits, first_ready}
use Rattle.table.proofs.Limits.{counted_all}
use Rattle.table.proofs.Choices.{or_yes, within_chosen}

-- ---- the tests before the choice
module _ (limit n : ℕ) (q : Question) where
  answering : Bool → Result (Unit {0}) Refusal → Option Answer
  answering a r = cond a (Some same_answer) (option_map refused_answer (result_err r))

  pub early_same : is_same q ≡ true → Some same_answer ≡ early limit n q
  unfolding early answering
  early_same e = sym (ap (λ (a : Bool). answering a (ready limit n q.et)) e)

  pub early_ready : is_same q ≡ false → option_map refused_answer (result_err (ready limit n q.et)) ≡ early limit n q
  unfolding early answering
  early_ready e = sym (ap (λ (a : Bool). answering a (ready limit n q.et)) e)

  -- no test decides: what they say
  pub late_fits : early limit n q ≡ None → n ≤ limit
  unfolding early answering
  late_fits = go (is_same q) (ready limit n q.et) refl
    where
      go : (a : Bool) (r : Result (Unit {0}) Refusal) → ready limit n q.et ≡ r → answering a r ≡ None → n ≤ limit
      go true r e h = let z : ◌≡◌ {A = Option Answer} (Some same_answer) None = h in cc
      go false (Err r) e h = let z : ◌≡◌ {A = Option Answer} (Some (refused_answer r)) None = h in cc
      go false (Ok t) e h = ready_fits limit n q.et t e

-- ---- the remembered segment
module _ (segs : List Segment) (n : ℕ) (q : Question) where
  pub recall_told : (i : ℕ) (b : Bool) → b ≡ (ltb i n && serves q (seg segs i)) → then_some b i ≡ recall segs n (Some i) q
  unfolding recall
  recall_told i true e = ap (λ (x : Bool). cond x (Some i) None) e
  recall_told i false e = ap (λ (x : Bool). cond x (Some i) None) e

  pub recall_none : None ≡ recall segs n None q
  unfolding recall
  recall_none = refl

-- ---- what is chosen, and the answer
module _ (segs : List Segment) (n : ℕ) where
  pub last_within : (q : Question) → Within n (last_in (hits q) segs n)
  last_within q = within_chosen segs n (hits q) (last_in (hits q) segs n) (last_chosen (hits q) segs n)

  pub recall_within : (m : Memory) (q : Question) → Within n (recall segs n m q)
  unfolding recall
  recall_within None q = tt
  recall_within (Some i) q = go (ltb i n) (serves q (seg segs i)) refl
    where
      go : (a b : Bool) → ltb i n ≡ a → Within n (cond (a && b) (Some i) None)
      go true true e = ltb-true i n e
      go true false e = tt
      go false b e = tt

-- ---- the question
module _ (limit : ℕ) (ev : Evaluation) (segs : List Segment) (n : ℕ) (m : Memory) (q : Question) where
  abbrev past : Option ℕ → Asked
  past c = record { answer = answer_to (found_by ev segs n q c); memory = remembered segs m c }

  -- the answer of the tests, else that of the choice
  early_or_told : (c : Option ℕ) → early_or (early limit n q) m (past c) ≡ asked_by limit ev segs n m q c
  unfolding early asked_by
  early_or_told c =
      go (is_same q) (ready limit n q.et)
      ∙ ap (cond (is_same q) (record { answer = same_answer; memory = m })) (first_ready limit n q.et [] (λ r. record { answer = refused_answer r; memory = m }) (past c))
    where
      go : (a : Bool) (r : Result (Unit {0}) Refusal) → early_or (cond a (Some same_answer) (option_map refused_answer (result_err r))) m (past c)
          ≡ cond a (record { answer = same_answer; memory = m }) (unless r (λ x. record { answer = refused_answer x; memory = m }) (past c))
      go true r = refl
      go false (Err r) = refl
      go false (Ok t) = refl

  pub asked_early : (a : Answer) → early limit n q ≡ Some a → record { answer = a; memory = m } ≡ asked limit ev segs n m q
  asked_early a e = sym (ap (λ (o : Option Answer). early_or o m (past (forward_in segs n m q))) e) ∙ early_or_told (forward_in segs n m q)

  pub late : early limit n q ≡ None → (c : Option ℕ) → forward_in segs n m q ≡ c → past c ≡ asked limit ev segs n m q
  late e c f = sym (ap (λ (o : Option Answer). early_or o m (past c)) e) ∙ early_or_told c ∙ sym (ap (asked_by limit ev segs n m q) f)

-- ---- the ways of the code
pub difference_refused : (a b : Result Given Refusal) (r : Refusal) → a ≡ Err r → Err r ≡ difference_of a b
unfolding difference_of
difference_refused a b r e = sym (ap (λ (x : Result Given Refusal). difference_of x b) e)

pub difference_state : (a b : Result Given Refusal) (g : Given) → a ≡ Ok g → less_of g b ≡ difference_of a b
unfolding difference_of
difference_state a b g e = sym (ap (λ (x : Result Given Refusal). difference_of x b) e)

-- ---- a segment by its number
module _ (limit : ℕ) (ev : Evaluation) (segs : List Segment) (n i : ℕ) (et : Float) where
  abbrev s : Segment
  s = seg_or segs (counted limit n) i

  -- where there is such a segment, it is the one that is evaluated
  same : n ≤ limit → i < n → s ≡ seg segs i
  same l h = ap (λ (m : ℕ). seg_or segs m i) (sym (counted_all limit n l)) ∙ sym (or_yes segs n i (lt-ltb i n h))

  pub alone_told : alone_with limit ev n i et s ≡ alone_answer limit ev segs n i et
  alone_told =
      by_test_lem (ltb limit n) (λ over. alone_unfit limit ev n i et s (ltb-true limit n over) ∙ sym (alone_unfit limit ev n i et (seg segs i) (ltb-true limit n over)))
      (λ fits. let l : n ≤ limit = ltb-false limit n fits in
      by_test_lem (is_nan et) (λ nan. alone_nan limit ev n i et s l nan ∙ sym (alone_nan limit ev n i et (seg segs i) l nan))
      (λ num. by_test_lem (leb n i) (λ past. alone_none limit ev n i et s l num (leb-true n i past) ∙ sym (alone_none limit ev n i et (seg segs i) l num (leb-true n i past)))
      (λ below. ap (alone_with limit ev n i et) (same l (leb-false n i below)))))
