-- Counts of suppliers when one record more is counted. Assumes nothing.
use mathlib.Core.Path.{◌≡◌, refl, sym, ap, ap₂, ◌∙◌, subst}
use mathlib.Core.Bool.{Bool, true, false, cond}
use mathlib.Core.List.{List, [], ◌∷◌, ◌++◌, map}
use Prim.Native.Nat.{ℕ, zero, suc, ◌≤◌, ◌<◌}
use native.Mathlib.Omega.{arith}
use lib.Dec.{eqb}
use lib.ListN.{length, get_or, take, drop, set}
use borrow.Author.Tests.{eq-eqb, ne_eqb}
use Rattle.tally.specs.Usage.{supplier_at, placed, suppliers_of, count_of}
use Rattle.tally.proofs.Order.{none_below, Above, Rises, by_order, placed_first, placed_same, placed_later, above_at}

-- none of the numbers is s
abbrev pub Apart : ℕ → List ℕ → Type 0
Apart s [] = Unit {0}
Apart s (t ∷ ts) = (t ≡ s → ⊥) × Apart s ts

pub above_apart : (s : ℕ) (l : List ℕ) → Above s l → Apart s l
above_apart s [] a = tt
above_apart s (t ∷ ts) a = (λ e. omega arith, above_apart s ts a.1)

pub apart_at : (s : ℕ) (l : List ℕ) → ((k : ℕ) → k < length l → get_or l k 0 ≡ s → ⊥) → Apart s l
apart_at s [] h = tt
apart_at s (t ∷ ts) h = (h 0 (omega arith), apart_at s ts (λ k b. h (suc k) (omega arith)))

pub apart_placed : (s x : ℕ) (l : List ℕ) → Apart s (placed x l) → (x ≡ s → ⊥) × Apart s l
unfolding placed
apart_placed s x [] a = (a.0, tt)
apart_placed s x (t ∷ ts) a =
    by_order x t ts
    (λ q. let b : Apart s (x ∷ (t ∷ ts)) = subst (Apart s) (placed_first x t ts q) a in b)
    (λ q. let b : Apart s (t ∷ ts) = subst (Apart s) (placed_same x t ts q) a in (λ e. b.0 (sym q ∙ e), b))
    (λ q. let b : Apart s (t ∷ placed x ts) = subst (Apart s) (placed_later x t ts q) a in
    let rest = apart_placed s x ts b.1 in (rest.0, (b.0, rest.1)))

-- one record more
module _ (file : List ℕ) (n : ℕ) where
  pub counted_one : count_of file (suc n) (supplier_at file n) ≡ suc (count_of file n (supplier_at file n))
  unfolding count_of
  counted_one =
      ap (λ (b : Bool). cond b (suc (count_of file n (supplier_at file n))) (count_of file n (supplier_at file n))) (eq-eqb (supplier_at file n) (supplier_at file n) refl)

  pub counted_other : (s : ℕ) → (supplier_at file n ≡ s → ⊥) → count_of file (suc n) s ≡ count_of file n s
  unfolding count_of
  counted_other s h = ap (λ (b : Bool). cond b (suc (count_of file n s)) (count_of file n s)) (ne_eqb (supplier_at file n) s h)

-- one whom no record names
pub never_named : (file : List ℕ) (n s : ℕ) → Apart s (suppliers_of file n) → count_of file n s ≡ 0
unfolding suppliers_of count_of
never_named file zero s a = refl
never_named file (suc n) s a =
    let rest = apart_placed s (supplier_at file n) (suppliers_of file n) a in
    counted_other file n s rest.0 ∙ never_named file n s rest.1

-- no more than there are records
pub count_least : (file : List ℕ) (n s : ℕ) → count_of file n s ≤ n
unfolding count_of
count_least file zero s = omega arith
count_least file (suc n) s = turn (eqb (supplier_at file n) s) (count_least file n s)
  where
    turn : (b : Bool) → count_of file n s ≤ n → cond b (suc (count_of file n s)) (count_of file n s) ≤ suc n
    turn true h = omega arith
    turn false h = omega arith

-- what is said of each number of a list, where it has changed of x alone
module _ {A : Type 0} (x : ℕ) (f g : ℕ → A) (other : (s : ℕ) → (x ≡ s → ⊥) → g s ≡ f s) where
  pub same_counts : (l : List ℕ) → Apart x l → map g l ≡ map f l
  same_counts [] a = refl
  same_counts (t ∷ ts) a = ap₂ ◌∷◌ (other t (λ e. a.0 (sym e))) (same_counts ts a.1)

  pub counts_there : (l : List ℕ) (p : ℕ) → Rises l → p < length l → get_or l p 0 ≡ x → map g l ≡ set (map f l) p (g x)
  counts_there [] p r b e = none_below p b
  counts_there (t ∷ ts) zero r b e = ap₂ ◌∷◌ (ap g e) (same_counts ts (above_apart x ts (subst (λ (y : ℕ). Above y ts) e r.0)))
  counts_there (t ∷ ts) (suc p) r b e =
      ap₂ ◌∷◌ (other t (λ q. omega (arith, above_at t ts p r.0 (omega arith)))) (counts_there ts p r.1 (omega arith) e)

  pub counts_new : (l : List ℕ) (p : ℕ) → p ≤ length l → Apart x l
      → map g (take p l ++ (x ∷ drop p l)) ≡ take p (map f l) ++ (g x ∷ drop p (map f l))
  counts_new l zero b a = ap (λ (r : List A). g x ∷ r) (same_counts l a)
  counts_new [] (suc p) b a = none_below p b
  counts_new (t ∷ ts) (suc p) b a = ap₂ ◌∷◌ (other t (λ e. a.0 (sym e))) (counts_new ts p (omega arith) a.1)
