-- Which segment `last_in` chooses: one that passes the test where no later one does; and none exactly where none passes. Assumes nothing.
use Prim.Native.Nat.{ℕ, zero, suc, ◌<◌}
use mathlib.Core.Path.{◌≡◌, refl, sym, ap, ◌∙◌}
use mathlib.Core.Logic.{⊎_elim}
use mathlib.Core.Bool.{Bool, true, false}
use mathlib.Core.List.{List}
use native.Mathlib.Nat.{not-suc-le-zero, le_of_suc-le-suc, eq-or-lt_of_le}
use native.Mathlib.Omega.{arith}
use Rattle.bits.proofs.Tests.{by_test_lem}
use Rattle.segment.specs.declared.Segment.{Segment}
use Rattle.std.proofs.Common.{Some, None}
use Rattle.table.specs.Segments.{seg}
use Rattle.table.specs.Choosing.{last_in}
use Rattle.table.proofs.Last.{last_none, last_turn}

at_eq : (i j : ℕ) → Some i ≡ Some j → i ≡ j
at_eq i j e = cc

at_nothing : {X : Type 0} (i : ℕ) → Some i ≡ None → X
at_nothing i e = let z : ◌≡◌ {A = ℕ} 0 1 = cc in absurd (omega arith)

module _ (test : Segment → Bool) (segs : List Segment) where
  -- the ith of the first n passes, and no later one does
  pub record Last (n i : ℕ) : Type 0 where
    pub below : i < n
    pub passes : test (seg segs i) ≡ true
    pub none : (j : ℕ) → i < j → j < n → test (seg segs j) ≡ false

  -- one more, which passes or not
  more_none : (n : ℕ) (P : ℕ → Type 0) → ((j : ℕ) → P j → j < n → test (seg segs j) ≡ false) → (P n → test (seg segs n) ≡ false) → (j : ℕ) → P j → j < suc n
      → test (seg segs j) ≡ false
  more_none n P f g j p l =
      ⊎_elim (λ (e : j ≡ n). ap (λ (x : ℕ). test (seg segs x)) e ∙ g (subst_at e p)) (λ b. f j p b) (eq-or-lt_of_le (le_of_suc-le-suc l))
    where
      subst_at : j ≡ n → P j → P n
      subst_at e x = rw e at x

  -- what a choice tells
  pub chosen_last : (n i : ℕ) → last_in test segs n ≡ Some i → Last n i
  chosen_last zero i e = at_nothing i (sym e ∙ last_none test segs zero refl)
  chosen_last (suc n) i e =
      by_test_lem (test (seg segs n))
      (λ y.
      let same : n ≡ i = at_eq n i (sym (last_turn test segs (suc n) n true refl y) ∙ e) in
      record { below = omega arith; passes = ap (λ (x : ℕ). test (seg segs x)) (sym same) ∙ y; none = λ j a b. absurd (omega arith) })
      (λ no.
      let rest = chosen_last n i (sym (last_turn test segs (suc n) n false refl no) ∙ e) in
      let below = rest.below in
      record { below = omega arith; passes = rest.passes; none = λ j a b. more_none n (λ x. i < x) rest.none (λ x. no) j a b })

  -- and only that one is chosen
  pub last_chosen : (n i : ℕ) → Last n i → last_in test segs n ≡ Some i
  last_chosen zero i h = absurd (not-suc-le-zero h.below)
  last_chosen (suc n) i h =
      ⊎_elim
      (λ (e : i ≡ n). last_turn test segs (suc n) n true refl (ap (λ (x : ℕ). test (seg segs x)) (sym e) ∙ h.passes) ∙ ap Some (sym e))
      (λ l. last_turn test segs (suc n) n false refl (h.none n l (omega arith)) ∙ last_chosen n i (record { below = l; passes = h.passes; none = λ j a b. h.none j a (omega arith) }))
      (eq-or-lt_of_le (le_of_suc-le-suc h.below))

  -- none is chosen where none passes ..
  pub none_chosen : (n : ℕ) → ((i : ℕ) → i < n → test (seg segs i) ≡ false) → last_in test segs n ≡ None
  none_chosen zero h = last_none test segs zero refl
  none_chosen (suc n) h = last_turn test segs (suc n) n false refl (h n (omega arith)) ∙ none_chosen n (λ i l. h i (omega arith))

  -- .. and only there
  pub chosen_none : (n : ℕ) → last_in test segs n ≡ None → (i : ℕ) → i < n → test (seg segs i) ≡ false
  chosen_none zero e i l = absurd (not-suc-le-zero l)
  chosen_none (suc n) e i l =
      by_test_lem (test (seg segs n))
      (λ y. at_nothing n (sym (last_turn test segs (suc n) n true refl y) ∙ e))
      (λ no. more_none n (λ x. Unit {0}) (λ j u b. chosen_none n (sym (last_turn test segs (suc n) n false refl no) ∙ e) j b) (λ u. no) i tt l)
