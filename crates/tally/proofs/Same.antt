-- Counts decide a statement: its suppliers are those whose count is not 0. Assumes nothing.
use mathlib.Core.Path.{◌≡◌, refl, sym, ap, ap₂, ◌∙◌, subst}
use mathlib.Core.Bool.{Bool, true, false, cond, ◌||◌, true≢false}
use mathlib.Core.List.{List, [], ◌∷◌, map}
use Prim.Native.Nat.{ℕ, zero, suc, ◌+◌, ◌<◌}
use native.Mathlib.Nat.{le_antisymm}
use native.Mathlib.Omega.{arith}
use lib.Dec.{ltb, eqb}
use lib.ListN.{length, get_or}
use borrow.Author.Tests.{lt-ltb, ltb-true, ltb-false, eqb-true, eqb-false, eq-eqb, ne_eqb}
use Rattle.bits.proofs.Tests.{by_test_lem, or_left, or_right}
use Rattle.tally.specs.declared.Line.{Line}
use Rattle.tally.specs.Usage.{supplier_at, placed, suppliers_of, count_of, line_of, lines_of}
use Rattle.tally.specs.Merging.{sum_of}
use Rattle.tally.proofs.Order.{none_below, Above, Rises, above_less, by_order, placed_first, placed_same, placed_later, suppliers_next, suppliers_rise}
use Rattle.tally.proofs.Counts.{Apart, above_apart, counted_one, counted_other, never_named}

-- whether s is among the numbers
abbrev pub has : ℕ → List ℕ → Bool
has s [] = false
has s (t ∷ ts) = eqb t s || has s ts

or_swap : (a b c : Bool) → (a || (b || c)) ≡ (b || (a || c))
or_swap true true c = refl
or_swap true false c = refl
or_swap false true c = refl
or_swap false false c = refl

pub has_placed : (s x : ℕ) (l : List ℕ) → has s (placed x l) ≡ (eqb x s || has s l)
unfolding placed
has_placed s x [] = refl
has_placed s x (t ∷ ts) =
    by_order x t ts
    (λ q. ap (has s) (placed_first x t ts q))
    (λ q. ap (has s) (placed_same x t ts q) ∙ known (eqb t s) (has s ts) ∙ ap (λ (y : ℕ). eqb y s || (eqb t s || has s ts)) (sym q))
    (λ q. ap (has s) (placed_later x t ts q) ∙ ap (λ (b : Bool). eqb t s || b) (has_placed s x ts) ∙ or_swap (eqb t s) (eqb x s) (has s ts))
  where
    known : (a b : Bool) → (a || b) ≡ (a || (a || b))
    known true b = refl
    known false b = refl

-- a supplier is there exactly where a record names him
pub has_suppliers : (file : List ℕ) (n s : ℕ) → has s (suppliers_of file n) ≡ ltb 0 (count_of file n s)
unfolding suppliers_of count_of
has_suppliers file zero s = refl
has_suppliers file (suc n) s =
    has_placed s (supplier_at file n) (suppliers_of file n)
    ∙ by_test_lem (eqb (supplier_at file n) s)
    (λ q. ap (λ (b : Bool). b || has s (suppliers_of file n)) q ∙ sym (ap (λ (b : Bool). ltb 0 (cond b (suc (count_of file n s)) (count_of file n s))) q ∙ lt-ltb 0 (suc (count_of file n s)) (omega arith)))
    (λ q. ap (λ (b : Bool). b || has s (suppliers_of file n)) q ∙ has_suppliers file n s ∙ sym (ap (λ (b : Bool). ltb 0 (cond b (suc (count_of file n s)) (count_of file n s))) q))

-- a number that is there has a place, and what stands at a place is there
pub has_place : (s : ℕ) (l : List ℕ) → has s l ≡ true → (k : ℕ) × (k < length l) × (get_or l k 0 ≡ s)
has_place s [] h = absurd (true≢false (sym h))
has_place s (t ∷ ts) h =
    by_test_lem (eqb t s) (λ q. (0, omega arith, eqb-true t s q))
    (λ q. let rest = has_place s ts (sym (ap (λ (b : Bool). b || has s ts) q) ∙ h) in (suc rest.0, omega (arith, rest.1), rest.2))

pub has_there : (l : List ℕ) (k : ℕ) → k < length l → has (get_or l k 0) l ≡ true
has_there [] k h = none_below k h
has_there (t ∷ ts) zero h = or_left (eqb t t) (has t ts) (eq-eqb t t refl)
has_there (t ∷ ts) (suc k) h = or_right (eqb t (get_or ts k 0)) (has (get_or ts k 0) ts) (has_there ts k (omega arith))

-- each of the first n records is counted for its supplier
pub named_once : (file : List ℕ) (n i : ℕ) → i < n → 0 < count_of file n (supplier_at file i)
named_once file zero i h = none_below i h
named_once file (suc n) i h =
    by_test_lem (eqb (supplier_at file n) (supplier_at file i))
    (λ q. omega (arith, ap (count_of file (suc n)) (eqb-true (supplier_at file n) (supplier_at file i) q), counted_one file n))
    (λ q. by_test_lem (ltb i n)
    (λ b. omega (arith, counted_other file n (supplier_at file i) (eqb-false (supplier_at file n) (supplier_at file i) q), named_once file n i (ltb-true i n b)))
    (λ b. absurd (eqb-false (supplier_at file n) (supplier_at file i) q (ap (supplier_at file) (le_antisymm (ltb-false i n b) (omega arith))))))

-- none of the numbers above s is s
above_has : (s : ℕ) (l : List ℕ) → Above s l → has s l ≡ false
above_has s [] a = refl
above_has s (t ∷ ts) a = ap (λ (b : Bool). b || has s ts) (ne_eqb t s (λ e. omega arith)) ∙ above_has s ts a.1

above_all : (r s : ℕ) (l : List ℕ) → r < s → Above s l → has r (s ∷ l) ≡ false
above_all r s l h a = ap (λ (b : Bool). b || has r l) (ne_eqb s r (λ e. omega arith)) ∙ above_has r l (above_less r s l h a)

has_first : (s : ℕ) (l : List ℕ) → has s (s ∷ l) ≡ true
has_first s l = ap (λ (b : Bool). b || has s l) (eq-eqb s s refl)

-- rising numbers are the same where the same are among them
pub same_numbers : (a b : List ℕ) → Rises a → Rises b → ((s : ℕ) → has s a ≡ has s b) → a ≡ b
same_numbers [] [] r q h = refl
same_numbers [] (t ∷ ts) r q h = absurd (true≢false (sym (h t ∙ has_first t ts)))
same_numbers (t ∷ ts) [] r q h = absurd (true≢false (sym (has_first t ts) ∙ h t))
same_numbers (x ∷ xs) (y ∷ ys) r q h =
    by_order x y ys
    (λ o. absurd (true≢false (sym (has_first x xs) ∙ h x ∙ above_all x y ys o q.0)))
    (λ e. ap₂ ◌∷◌ e (same_numbers xs ys r.1 q.1 (rest e)))
    (λ o. absurd (true≢false (sym (has_first y ys) ∙ sym (h y) ∙ above_all y x xs o r.0)))
  where
    rest : x ≡ y → (s : ℕ) → has s xs ≡ has s ys
    rest e s =
        by_test_lem (eqb x s)
        (λ t. ap (λ (k : ℕ). has k xs) (sym (eqb-true x s t)) ∙ above_has x xs r.0 ∙ sym (ap (λ (k : ℕ). has k ys) (sym (eqb-true x s t) ∙ e) ∙ above_has y ys q.0))
        (λ t. sym (ap (λ (b : Bool). b || has s xs) t) ∙ h s ∙ ap (λ (b : Bool). b || has s ys) (ap (λ (k : ℕ). eqb k s) (sym e) ∙ t))

-- lines of the same counts are the same
pub same_lines : (f g : List ℕ) (n m : ℕ) → ((s : ℕ) → count_of f n s ≡ count_of g m s) → lines_of f n ≡ lines_of g m
same_lines f g n m h =
    ap (map (line_of f n)) (same_numbers (suppliers_of f n) (suppliers_of g m) (suppliers_rise f n) (suppliers_rise g m) named) ∙ lines (suppliers_of g m)
  where
    named : (s : ℕ) → has s (suppliers_of f n) ≡ has s (suppliers_of g m)
    named s = has_suppliers f n s ∙ ap (ltb 0) (h s) ∙ sym (has_suppliers g m s)

    lines : (l : List ℕ) → map (line_of f n) l ≡ map (line_of g m) l
    lines [] = refl
    lines (s ∷ ss) = ap₂ (λ (k : ℕ) (t : List Line). record { supplier = s; count = k } ∷ t) (h s) (lines ss)

-- the counts add up to the number of records
unfoldable sums : (ℕ → ℕ) → List ℕ → ℕ
sums f [] = 0
sums f (s ∷ ss) = f s + sums f ss

module _ (x : ℕ) (f g : ℕ → ℕ) (one : g x ≡ suc (f x)) (other : (s : ℕ) → (x ≡ s → ⊥) → g s ≡ f s) where
  sums_same : (l : List ℕ) → Apart x l → sums g l ≡ sums f l
  unfolding sums
  sums_same [] a = refl
  sums_same (t ∷ ts) a = ap₂ ◌+◌ (other t (λ e. a.0 (sym e))) (sums_same ts a.1)

  sums_placed : (l : List ℕ) → Rises l → (Apart x l → f x ≡ 0) → sums g (placed x l) ≡ suc (sums f l)
  unfolding placed sums
  sums_placed [] r z = omega (arith, one, z tt)
  sums_placed (t ∷ ts) r z =
      by_order x t ts
      (λ q. let a : Apart x (t ∷ ts) = (λ e. omega arith, above_apart x ts (above_less x t ts q r.0)) in
      ap (sums g) (placed_first x t ts q) ∙ ap₂ ◌+◌ (one ∙ ap suc (z a)) (sums_same (t ∷ ts) a) ∙ omega arith)
      (λ q. ap (sums g) (placed_same x t ts q) ∙ ap₂ ◌+◌ (ap g (sym q) ∙ one) (sums_same ts (above_apart x ts (subst (λ (y : ℕ). Above y ts) (sym q) r.0))) ∙ first q)
      (λ q. ap (sums g) (placed_later x t ts q) ∙ ap₂ ◌+◌ (other t (λ e. omega arith)) (sums_placed ts r.1 (λ a. z (λ e. omega arith, a))) ∙ omega arith)
    where
      first : x ≡ t → suc (f x) + sums f ts ≡ suc (f t + sums f ts)
      first q = omega (arith, ap f q)

pub adds_up : (file : List ℕ) (n : ℕ) → sum_of (lines_of file n) ≡ n
unfolding sums suppliers_of
adds_up file n = lines n (suppliers_of file n) ∙ counted n
  where
    lines : (m : ℕ) (l : List ℕ) → sum_of (map (line_of file m) l) ≡ sums (count_of file m) l
    lines m [] = refl
    lines m (s ∷ ss) = ap (λ (k : ℕ). count_of file m s + k) (lines m ss)

    counted : (m : ℕ) → sums (count_of file m) (suppliers_of file m) ≡ m
    counted zero = refl
    counted (suc m) =
        ap (sums (count_of file (suc m))) (suppliers_next file m)
        ∙ sums_placed (supplier_at file m) (count_of file m) (count_of file (suc m)) (counted_one file m) (counted_other file m) (suppliers_of file m) (suppliers_rise file m) (never_named file m (supplier_at file m))
        ∙ ap suc (counted m)
