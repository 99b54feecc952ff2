-- Laws of the summaries one after the other: what is left at a cursor is what is left of the places of the definition. Assumes nothing.
use Prim.Native.Nat.{ℕ, zero, suc, ◌+◌, ◌-◌, ◌*◌, ◌≤◌, ◌<◌}
use mathlib.Core.Path.{◌≡◌, refl, sym, ap, ap₂, ◌∙◌, subst}
use mathlib.Core.Bool.{false, true≢false}
use mathlib.Core.List.{List, [], ◌∷◌, ◌++◌}
use native.Mathlib.Omega.{arith}
use native.Mathlib.Numerals.{add-one}
use borrow.Author.Tests.{ltb-true, ltb-false, lt-ltb, le-ltb}
use lib.Dec.{ltb}
use lib.ListN.{length, length-append}
use Rattle.bits.proofs.Tests.{by_test_lem, or_left}
use Rattle.daf.specs.Walk.{next_of, count_of}
use Rattle.daf.specs.Summaries.{any_over25, total, place, places_in, places}
use Rattle.daf.specs.Steps.{along, Sound, cursor, seek_of, next_cursor, remaining, Standing}
use Rattle.daf.specs.declared.Place.{Place}
use Rattle.daf.specs.declared.Cursor.{Cursor}
use Rattle.daf.proofs.Counting.{over_no}

-- ---- one turn of `seek`
module _ (k : List ℕ) where
  pub seek_none : (r left : ℕ) → left ≡ 0 → seek_of k r left ≡ cursor 0 0 0 0
  unfolding seek_of
  seek_none r left e = ap (seek_of k r) e

  pub seek_here : (r left l n : ℕ) → left ≡ suc l → n ≡ count_of k r → 0 < n → seek_of k r left ≡ cursor r 0 n l
  unfolding seek_of
  seek_here r left l n e q h = ap (seek_of k r) e ∙ rw (← q, lt-ltb 0 n h)

  pub seek_on : (r left l n next : ℕ) → left ≡ suc l → n ≡ count_of k r → n ≤ 0 → next ≡ next_of k r → seek_of k r left ≡ seek_of k next l
  unfolding seek_of
  seek_on r left l n next e q h x = ap (seek_of k r) e ∙ rw (← q, le-ltb 0 n h, x)

  -- ---- the next summary
  module _ (c : Cursor) where
    pub next_here : c.index + 1 < c.count → next_cursor k c ≡ cursor c.rec (c.index + 1) c.count c.left
    unfolding next_cursor
    next_here h = rw (lt-ltb (c.index + 1) c.count h)

    pub next_seek : (r : ℕ) → c.count ≤ c.index + 1 → r ≡ next_of k c.rec → next_cursor k c ≡ seek_of k r c.left
    unfolding next_cursor
    next_seek r h x = rw (le-ltb (c.index + 1) c.count h, x)

    pub stands_here : Standing k c → c.index < c.count → (1 ≤ c.rec) × (1024 * (c.rec + 1) ≤ length k)
    unfolding Standing
    stands_here s h = let a = s.0 h in (a.0, a.1)

    pub stands_few : Standing k c → c.index < c.count → c.index < 25
    unfolding Standing
    stands_few s h = let a = (s.0 h).2 in omega arith

    pub stands_next : (r : ℕ) → r ≡ next_of k c.rec → Standing k c → Sound k r c.left
    unfolding Standing
    stands_next r x s = subst (λ (y : ℕ). Sound k y c.left) (sym x) s.1

  -- ---- what is left at a cursor

  counted : (r i n : ℕ) → length (places_in r i n) ≡ n
  unfolding places_in
  counted r i zero = refl
  counted r i (suc n) = ap suc (counted r (suc i) n)

  pub length_places : (rs : List ℕ) → length (places k rs) ≡ total k rs
  unfolding places total
  length_places [] = refl
  length_places (r ∷ rs) =
      length-append (places_in r 0 (count_of k r)) (places k rs) ∙ ap₂ ◌+◌ (counted r 0 (count_of k r)) (length_places rs)

  none_in : (r i n : ℕ) → n ≡ 0 → places_in r i n ≡ []
  unfolding places_in
  none_in r i n e = ap (places_in r i) e

  pub remaining_seek : (left r : ℕ) → remaining k (seek_of k r left) ≡ places k (along k r left)
  unfolding remaining seek_of places along places_in
  remaining_seek zero r = refl
  remaining_seek (suc left) r =
      by_test_lem (ltb 0 (count_of k r))
      (λ t. rw t (ap (λ (n : ℕ). places_in r 0 n ++ places k (along k (next_of k r) left)) (less (count_of k r))))
      (λ f. rw f (remaining_seek left (next_of k r) ∙ sym (ap (λ (l : List Place). l ++ places k (along k (next_of k r) left)) (none_in r 0 (count_of k r) (none (ltb-false 0 (count_of k r) f))))))
    where
      less : (n : ℕ) → n - 0 ≡ n
      less n = omega arith

      none : count_of k r ≤ 0 → count_of k r ≡ 0
      none h = omega arith

  pub remaining_next : (c : Cursor) → c.index < c.count → remaining k c ≡ place c.rec c.index ∷ remaining k (next_cursor k c)
  unfolding remaining places_in
  remaining_next c h =
      ap (λ (n : ℕ). places_in c.rec c.index n ++ places k (along k (next_of k c.rec) c.left)) one_less
      ∙ ap (λ (l : List Place). place c.rec c.index ∷ l)
      (by_test_lem (ltb (c.index + 1) c.count)
      (λ t. ap (λ (i : ℕ). places_in c.rec i (c.count - (c.index + 1)) ++ places k (along k (next_of k c.rec) c.left)) (sym (add-one c.index))
      ∙ sym (ap (remaining k) (next_here c (ltb-true _ _ t))))
      (λ f. ap (λ (l : List Place). l ++ places k (along k (next_of k c.rec) c.left)) (none_in c.rec (suc c.index) (c.count - (c.index + 1)) (none (ltb-false _ _ f)))
      ∙ sym (remaining_seek c.left (next_of k c.rec))
      ∙ sym (ap (remaining k) (next_seek c _ (ltb-false _ _ f) refl))))
    where
      one_less : c.count - c.index ≡ suc (c.count - (c.index + 1))
      one_less = omega arith

      none : c.count ≤ c.index + 1 → c.count - (c.index + 1) ≡ 0
      none l = omega arith

  -- ---- the records of a cursor stand in the kernel

  pub standing_seek : (left r : ℕ) → Sound k r left → any_over25 k (along k r left) ≡ false → Standing k (seek_of k r left)
  unfolding Standing seek_of Sound along any_over25
  standing_seek zero r s o = (λ h. absurd (omega arith), tt, refl)
  standing_seek (suc left) r s o =
      by_test_lem (ltb 0 (count_of k r))
      (λ t. rw t ((λ h. (s.0, s.1, few)), s.2, rest))
      (λ f. rw f (standing_seek left (next_of k r) s.2 rest))
    where
      few : count_of k r ≤ 25
      few = by_test_lem (ltb 25 (count_of k r)) (λ t. absurd (true≢false (sym (or_left _ _ t) ∙ o))) (λ f. ltb-false 25 (count_of k r) f)

      rest : any_over25 k (along k (next_of k r) left) ≡ false
      rest = sym (over_no k r (suc left) left (next_of k r) refl refl few) ∙ o

  pub standing_next : (c : Cursor) → c.index < c.count → Standing k c → Standing k (next_cursor k c)
  unfolding Standing
  standing_next c h s =
      by_test_lem (ltb (c.index + 1) c.count)
      (λ t. subst (Standing k) (sym (next_here c (ltb-true _ _ t))) ((λ l. s.0 h), s.1, s.2))
      (λ f. subst (Standing k) (sym (next_seek c _ (ltb-false _ _ f) refl)) (standing_seek c.left (next_of k c.rec) s.1 s.2))

  -- ---- a cursor that is past its record's summaries is past them all

  pub Proper : Cursor → Type 0
  Proper c = c.count ≤ c.index → remaining k c ≡ []

  pub proper_seek : (left r : ℕ) → Proper (seek_of k r left)
  unfolding Proper seek_of remaining places_in places along
  proper_seek zero r = λ h. refl
  proper_seek (suc left) r =
      by_test_lem (ltb 0 (count_of k r)) (λ t. rw t (λ h. absurd (none (ltb-true 0 (count_of k r) t) h))) (λ f. rw f (proper_seek left (next_of k r)))
    where
      none : 0 < count_of k r → count_of k r ≤ 0 → ⊥
      none a b = omega arith

  pub proper_next : (c : Cursor) → Proper (next_cursor k c)
  unfolding Proper
  proper_next c =
      by_test_lem (ltb (c.index + 1) c.count)
      (λ t. subst Proper (sym (next_here c (ltb-true _ _ t))) (λ h. absurd (none (ltb-true (c.index + 1) c.count t) h)))
      (λ f. subst Proper (sym (next_seek c _ (ltb-false _ _ f) refl)) (proper_seek c.left (next_of k c.rec)))
    where
      none : c.index + 1 < c.count → c.count ≤ c.index + 1 → ⊥
      none a b = omega arith

  pub proper_some : (c : Cursor) → Proper c → 0 < length (remaining k c) → c.index < c.count
  unfolding Proper
  proper_some c p h =
      by_test_lem (ltb c.index c.count) (λ t. ltb-true _ _ t) (λ f. absurd (nothing (ap length (p (ltb-false _ _ f))) h))
    where
      nothing : length (remaining k c) ≡ 0 → 0 < length (remaining k c) → ⊥
      nothing e l = omega arith
