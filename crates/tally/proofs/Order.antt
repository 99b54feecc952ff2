-- Suppliers in order of number: they rise, one who is there is not put there again, and one who isn't is put in at his place. Assumes nothing.
use mathlib.Core.Path.{◌≡◌, refl, sym, ap, ◌∙◌, subst}
use mathlib.Core.Bool.{Bool, cond}
use mathlib.Core.List.{List, [], ◌∷◌, ◌++◌}
use Prim.Native.Nat.{ℕ, zero, suc, ◌≤◌, ◌<◌}
use native.Mathlib.Omega.{arith}
use lib.Dec.{ltb, eqb}
use lib.ListN.{length, get_or, take, drop}
use borrow.Author.Tests.{ltb-true, ltb-false, lt-ltb, le-ltb, eqb-true, eqb-false, eq-eqb, ne_eqb}
use Rattle.bits.proofs.Tests.{by_test_lem}
use Rattle.tally.specs.Usage.{supplier_at, placed, suppliers_of}

-- nothing is below 0
pub none_below : {X : Type 0} (n : ℕ) → n < 0 → X
none_below n h = absurd (never h)
  where
    never : n < 0 → ⊥
    never a = omega arith

-- one number put among others, by its tests
module _ (s t : ℕ) (ts : List ℕ) where
  pub placed_first : s < t → placed s (t ∷ ts) ≡ s ∷ (t ∷ ts)
  unfolding placed
  placed_first h = ap (λ (b : Bool). cond b (s ∷ (t ∷ ts)) (cond (eqb s t) (t ∷ ts) (t ∷ placed s ts))) (lt-ltb s t h)

  pub placed_same : s ≡ t → placed s (t ∷ ts) ≡ t ∷ ts
  unfolding placed
  placed_same e =
      ap (λ (b : Bool). cond b (s ∷ (t ∷ ts)) (cond (eqb s t) (t ∷ ts) (t ∷ placed s ts))) (le-ltb s t (omega arith))
      ∙ ap (λ (b : Bool). cond b (t ∷ ts) (t ∷ placed s ts)) (eq-eqb s t e)

  pub placed_later : t < s → placed s (t ∷ ts) ≡ t ∷ placed s ts
  unfolding placed
  placed_later h =
      ap (λ (b : Bool). cond b (s ∷ (t ∷ ts)) (cond (eqb s t) (t ∷ ts) (t ∷ placed s ts))) (le-ltb s t (omega arith))
      ∙ ap (λ (b : Bool). cond b (t ∷ ts) (t ∷ placed s ts)) (ne_eqb s t (λ e. omega arith))

  -- a number is below another, the same, or above it
  pub by_order : {X : Type 0} → (s < t → X) → (s ≡ t → X) → (t < s → X) → X
  by_order low same high =
      by_test_lem (ltb s t) (λ q. low (ltb-true s t q))
      (λ q. by_test_lem (eqb s t) (λ e. same (eqb-true s t e)) (λ n. high (above (ltb-false s t q) (eqb-false s t n))))
    where
      above : t ≤ s → (s ≡ t → ⊥) → t < s
      above h n = by_test_lem (ltb t s) (λ q. ltb-true t s q) (λ q. absurd (n (omega (arith, ltb-false t s q))))

-- every number is above s
abbrev pub Above : ℕ → List ℕ → Type 0
Above s [] = Unit {0}
Above s (t ∷ ts) = (s < t) × Above s ts

-- each number is above those before it
abbrev pub Rises : List ℕ → Type 0
Rises [] = Unit {0}
Rises (t ∷ ts) = Above t ts × Rises ts

pub above_less : (r s : ℕ) (l : List ℕ) → r < s → Above s l → Above r l
above_less r s [] h a = tt
above_less r s (t ∷ ts) h a = (omega arith, above_less r s ts h a.1)

pub placed_above : (r s : ℕ) (l : List ℕ) → r < s → Above r l → Above r (placed s l)
unfolding placed
placed_above r s [] h a = (h, tt)
placed_above r s (t ∷ ts) h a =
    by_order s t ts
    (λ q. subst (Above r) (sym (placed_first s t ts q)) (h, a))
    (λ q. subst (Above r) (sym (placed_same s t ts q)) a)
    (λ q. subst (Above r) (sym (placed_later s t ts q)) (a.0, placed_above r s ts h a.1))

pub placed_rises : (s : ℕ) (l : List ℕ) → Rises l → Rises (placed s l)
unfolding placed
placed_rises s [] r = (tt, tt)
placed_rises s (t ∷ ts) r =
    by_order s t ts
    (λ q. subst Rises (sym (placed_first s t ts q)) ((q, above_less s t ts q r.0), r))
    (λ q. subst Rises (sym (placed_same s t ts q)) r)
    (λ q. subst Rises (sym (placed_later s t ts q)) (placed_above t s ts q r.0, placed_rises s ts r.1))

-- the suppliers of one record more
pub suppliers_next : (file : List ℕ) (n : ℕ) → suppliers_of file (suc n) ≡ placed (supplier_at file n) (suppliers_of file n)
unfolding suppliers_of
suppliers_next file n = refl

pub suppliers_rise : (file : List ℕ) (n : ℕ) → Rises (suppliers_of file n)
unfolding suppliers_of
suppliers_rise file zero = tt
suppliers_rise file (suc n) = placed_rises (supplier_at file n) (suppliers_of file n) (suppliers_rise file n)

-- the same, place by place
pub above_at : (s : ℕ) (l : List ℕ) (j : ℕ) → Above s l → j < length l → s < get_or l j 0
above_at s [] j a h = omega arith
above_at s (t ∷ ts) zero a h = a.0
above_at s (t ∷ ts) (suc j) a h = above_at s ts j a.1 (omega arith)

pub rises_at : (l : List ℕ) (i j : ℕ) → Rises l → i < j → j < length l → get_or l i 0 < get_or l j 0
rises_at [] i j r h b = omega arith
rises_at (t ∷ ts) i zero r h b = omega arith
rises_at (t ∷ ts) zero (suc j) r h b = above_at t ts j r.0 (omega arith)
rises_at (t ∷ ts) (suc i) (suc j) r h b = rises_at ts i j r.1 (omega arith) (omega arith)

-- one who is there
pub placed_there : (s : ℕ) (l : List ℕ) (p : ℕ) → Rises l → p < length l → get_or l p 0 ≡ s → placed s l ≡ l
placed_there s [] p r b e = none_below p b
placed_there s (t ∷ ts) zero r b e = placed_same s t ts (sym e)
placed_there s (t ∷ ts) (suc p) r b e =
    placed_later s t ts (omega (arith, above_at t ts p r.0 (omega arith))) ∙ ap (λ (l : List ℕ). t ∷ l) (placed_there s ts p r.1 (omega arith) e)

-- one who isn't
pub placed_new : (s : ℕ) (l : List ℕ) (p : ℕ) → p ≤ length l
    → ((k : ℕ) → k < p → get_or l k 0 < s) → ((k : ℕ) → p ≤ k → k < length l → s < get_or l k 0)
    → placed s l ≡ take p l ++ (s ∷ drop p l)
unfolding placed
placed_new s [] zero b low high = refl
placed_new s [] (suc p) b low high = none_below p b
placed_new s (t ∷ ts) zero b low high = placed_first s t ts (high 0 (omega arith) (omega arith))
placed_new s (t ∷ ts) (suc p) b low high =
    placed_later s t ts (low 0 (omega arith))
    ∙ ap (λ (l : List ℕ). t ∷ l) (placed_new s ts p (omega arith) (λ k h. low (suc k) (omega arith)) (λ k h g. high (suc k) (omega arith) (omega arith)))
