-- A list of numbers below n in which none stands twice has at most n of them. Assumes nothing.
use Prim.Native.Nat.{ℕ, zero, suc, ◌+◌, ◌≤◌, ◌<◌}
use mathlib.Core.Path.{◌≡◌, refl, sym, ap, ◌∙◌}
use mathlib.Core.Bool.{Bool, true, false, ◌||◌, true≢false}
use mathlib.Core.List.{List, [], ◌∷◌}
use native.Mathlib.Omega.{arith}
use borrow.Author.Tests.{ltb-true, ltb-false, lt-ltb, le-ltb, eqb-true, eqb-false, ne_eqb}
use lib.Dec.{eqb, ltb}
use lib.ListN.{length}
use Rattle.bits.proofs.Tests.{by_test_lem}
use Rattle.daf.specs.Walk.{among}

-- 1 where a test holds
one : Bool → ℕ
one true = 1
one false = 0

-- how many of a list are below n, and how many are n
below : List ℕ → ℕ → ℕ
below [] n = 0
below (x ∷ xs) n = one (ltb x n) + below xs n

times : List ℕ → ℕ → ℕ
times [] n = 0
times (x ∷ xs) n = one (eqb x n) + times xs n

-- none stands twice; all are below n
pub Distinct : List ℕ → Type 0
Distinct [] = Unit {0}
Distinct (x ∷ xs) = (among x xs ≡ false) × Distinct xs

pub Below : List ℕ → ℕ → Type 0
Below [] n = Unit {0}
Below (x ∷ xs) n = (x < n) × Below xs n

pub distinct_none : Distinct []
unfolding Distinct
distinct_none = tt

pub distinct_more : (x : ℕ) (xs : List ℕ) → among x xs ≡ false → Distinct xs → Distinct (x ∷ xs)
unfolding Distinct
distinct_more x xs a d = (a, d)

pub below_none : (n : ℕ) → Below [] n
unfolding Below
below_none n = tt

pub below_more : (x : ℕ) (xs : List ℕ) (n : ℕ) → x < n → Below xs n → Below (x ∷ xs) n
unfolding Below
below_more x xs n a d = (a, d)

-- below n + 1 is below n, or n
split : (x n : ℕ) → one (ltb x (suc n)) ≡ one (ltb x n) + one (eqb x n)
unfolding one
split x n =
    by_test_lem (ltb x n) (λ t. let l : x < n = ltb-true x n t in rw (t, lt-ltb x (suc n) (omega arith), ne_eqb x n (λ e. omega arith)))
    (λ f. let l : n ≤ x = ltb-false x n f in
    by_test_lem (eqb x n) (λ t. let e : x ≡ n = eqb-true x n t in rw (f, t, lt-ltb x (suc n) (omega arith)))
    (λ u. rw (f, u, le-ltb x (suc n) (more l (eqb-false x n u)))))
  where
    more : n ≤ x → (x ≡ n → ⊥) → suc n ≤ x
    more l e = omega arith

below_suc : (xs : List ℕ) (n : ℕ) → below xs (suc n) ≡ below xs n + times xs n
unfolding below times
below_suc [] n = refl
below_suc (x ∷ xs) n = let e = split x n in let h = below_suc xs n in omega arith

below_zero : (xs : List ℕ) → below xs 0 ≡ 0
unfolding below one
below_zero [] = refl
below_zero (x ∷ xs) = let h = below_zero xs in let e : ltb x 0 ≡ false = le-ltb x 0 (omega arith) in rw (e, h)

times_none : (n : ℕ) (xs : List ℕ) → among n xs ≡ false → times xs n ≡ 0
unfolding times one
times_none n [] a = refl
times_none n (x ∷ xs) a =
    by_test_lem (eqb n x) (λ t. absurd (true≢false (sym (ap (λ (b : Bool). b || among n xs) t) ∙ a)))
    (λ f. let h = times_none n xs (sym (ap (λ (b : Bool). b || among n xs) f) ∙ a) in
    let e : eqb x n ≡ false = ne_eqb x n (λ q. eqb-false n x f (sym q)) in rw (e, h))

times_one : (n : ℕ) (xs : List ℕ) → Distinct xs → times xs n ≤ 1
unfolding times one Distinct
times_one n [] d = omega arith
times_one n (x ∷ xs) d =
    by_test_lem (eqb x n)
    (λ t. let h = times_none n xs (ap (λ (y : ℕ). among y xs) (sym (eqb-true x n t)) ∙ d.0) in rw (t, h) (omega arith))
    (λ f. let h = times_one n xs d.1 in rw f (omega arith))

fewer : (xs : List ℕ) (n : ℕ) → Distinct xs → below xs n ≤ n
fewer xs zero d = let h = below_zero xs in omega arith
fewer xs (suc n) d = let h = fewer xs n d in let e = below_suc xs n in let t = times_one n xs d in omega arith

all_below : (xs : List ℕ) (n : ℕ) → Below xs n → below xs n ≡ length xs
unfolding below one Below
all_below [] n b = refl
all_below (x ∷ xs) n b = let h = all_below xs n b.1 in rw (lt-ltb x n b.0, h) (omega arith)

pub pigeons : (xs : List ℕ) (n : ℕ) → Distinct xs → Below xs n → length xs ≤ n
pigeons xs n d b = let h = fewer xs n d in let e = all_below xs n b in omega arith
