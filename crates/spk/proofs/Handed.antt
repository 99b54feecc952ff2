-- A question with what finds and what gives the chain handed in: a law for each way through the code; with the scan of all segments and the chain over
-- them it is what `Asking` defines. Assumes nothing.
use mathlib.Core.Path.{◌≡◌, refl, sym, ap, ap₂, subst, ◌∙◌}
use mathlib.Core.Bool.{Bool, ◌&&◌}
use mathlib.Core.List.{List}
use Prim.Native.Nat.{ℕ}
use lib.Dec.{ltb}
use Rattle.frame.specs.declared.Given.{Given}
use Rattle.refusal.specs.declared.Refusal.{Refusal}
use Rattle.segment.specs.declared.Segment.{Segment}
use Rattle.std.proofs.Common.{Option, Some, None, MatchOption, Result}
use Rattle.std.specs.Bool.{then_some}
use Rattle.std.specs.Option.{option_or}
use Rattle.table.specs.Segments.{seg}
use Rattle.table.specs.Steps.{Within}
use Rattle.chain.specs.Step.{Evaluation}
use Rattle.spk.specs.declared.Question.{Question}
use Rattle.spk.specs.declared.Answer.{Answer}
use Rattle.spk.specs.declared.Asked.{Asked}
use Rattle.spk.specs.declared.Way.TheVariants.{Forward, Reversed, Chained}
use Rattle.spk.specs.Questions.{swapped, serves}
use Rattle.spk.specs.Choosing.{Memory, recall, last_forward, last_reversed, forward_in, remembered, remembered_at}
use Rattle.spk.specs.Answers.{settled, negated_of}
use Rattle.spk.specs.Asking.{Found, given_at, chained, backward, found_by, answer_to, asked}
use Rattle.spk.specs.Steps.{early, early_or, back_or, ahead_or, chosen_or, asked_from}
use Rattle.spk.proofs.Finding.{recall_told, recall_none, asked_early, late}

-- ---- the forward choice
pub filter_told : (segs : List Segment) (n : ℕ) (q : Question) (m : Memory) (r : Option ℕ) (P : ℕ → Bool → Type 0)
    → ((i : ℕ) (b : Bool) → P i b → b ≡ (ltb i n && serves q (seg segs i)))
    → MatchOption m (r ≡ None) (λ x. (b : Bool) × P x b × (r ≡ then_some b x)) → r ≡ recall segs n m q
filter_told segs n q None r P h e = e ∙ recall_none segs n q
filter_told segs n q (Some i) r P h e = e.2 ∙ recall_told segs n q i e.0 (h i e.0 e.1)

pub or_told : (a r x : Option ℕ) (P : Type 0) → (P → r ≡ x) → MatchOption a P (λ i. r ≡ Some i) → r ≡ option_or a x
or_told None r x P h e = h e
or_told (Some i) r x P h e = e

pub or_within : (n : ℕ) (a r : Option ℕ) (P : Type 0) → Within n a → (P → Within n r) → MatchOption a P (λ i. r ≡ Some i) → Within n r
or_within n None r P w h e = h e
or_within n (Some i) r P w h e = subst (Within n) (sym e) w

-- ---- the question
module _ (limit : ℕ) (ev : Evaluation) (segs : List Segment) (n : ℕ) (m : Memory) (q : Question) (l : Question → Option ℕ) (z : Question → Result Given Refusal) where
  ways : Option Answer → Option ℕ → Option ℕ → Asked
  ways o c b = early_or o m (chosen_or ev segs m q (back_or ev segs q (z q) b) c)

  abbrev c : Option ℕ
  c = option_or (recall segs n m q) (l q)

  ways_told : ways (early limit n q) c (l (swapped q)) ≡ asked_from limit ev segs n m q l z
  unfolding asked_from ways
  ways_told = refl

  pub handed_early : (a : Answer) → early limit n q ≡ Some a → record { answer = a; memory = m } ≡ asked_from limit ev segs n m q l z
  unfolding ways
  handed_early a e = sym (ap (λ (o : Option Answer). ways o c (l (swapped q))) e) ∙ ways_told

  module _ (e : early limit n q ≡ None) where
    past : (x : Option ℕ) → c ≡ x → ways None x (l (swapped q)) ≡ asked_from limit ev segs n m q l z
    past x f = sym (ap₂ (λ (o : Option Answer) (y : Option ℕ). ways o y (l (swapped q))) e f) ∙ ways_told

    pub handed_forward : (i : ℕ) → c ≡ Some i
        → record { answer = settled (Forward i) (given_at ev segs q i); memory = remembered_at m i (seg segs i) } ≡ asked_from limit ev segs n m q l z
    unfolding ways
    handed_forward i f = past (Some i) f

    pub handed_reversed : c ≡ None → (i : ℕ) → l (swapped q) ≡ Some i
        → record { answer = settled (Reversed i) (negated_of (given_at ev segs q i)); memory = m } ≡ asked_from limit ev segs n m q l z
    unfolding ways
    handed_reversed f i b = sym (ap (ways None None) b) ∙ past None f

    pub handed_chained : c ≡ None → l (swapped q) ≡ None → record { answer = settled Chained (z q); memory = m } ≡ asked_from limit ev segs n m q l z
    unfolding ways
    handed_chained f b = sym (ap (ways None None) b) ∙ past None f

-- ---- with the scan of all segments
module _ (ev : Evaluation) (segs : List Segment) (n : ℕ) (q : Question) where
  pub back_found : (x : Option ℕ) → back_or ev segs q (chained ev segs n q) x ≡ backward ev segs n q x
  back_found (Some i) = refl
  back_found None = refl

  pub ahead_found : (x : Option ℕ) → ahead_or ev segs q (backward ev segs n q (last_reversed segs n q)) x ≡ found_by ev segs n q x
  ahead_found (Some i) = refl
  ahead_found None = refl

module _ (limit : ℕ) (ev : Evaluation) (segs : List Segment) (n : ℕ) (m : Memory) (q : Question) where
  abbrev all : Asked
  all = asked_from limit ev segs n m q (last_forward segs n) (chained ev segs n)

  choice_told : option_or (recall segs n m q) (last_forward segs n q) ≡ forward_in segs n m q
  unfolding forward_in
  choice_told = refl

  early_told : (o : Option Answer) → early limit n q ≡ o
      → early_or o m (chosen_or ev segs m q (back_or ev segs q (chained ev segs n q) (last_reversed segs n q)) (forward_in segs n m q)) ≡ asked limit ev segs n m q
  early_told (Some a) e = asked_early limit ev segs n m q a e
  early_told None e =
      ap (λ (b : Found). chosen_or ev segs m q b (forward_in segs n m q)) (back_found ev segs n q (last_reversed segs n q))
      ∙ ap (λ (f : Found). record { answer = answer_to f; memory = remembered segs m (forward_in segs n m q) }) (ahead_found ev segs n q (forward_in segs n m q))
      ∙ late limit ev segs n m q e (forward_in segs n m q) refl

  pub handed_all : all ≡ asked limit ev segs n m q
  unfolding asked_from
  handed_all =
      ap (λ (x : Option ℕ). early_or (early limit n q) m (chosen_or ev segs m q (back_or ev segs q (chained ev segs n q) (last_reversed segs n q)) x)) choice_told
      ∙ early_told (early limit n q) refl
