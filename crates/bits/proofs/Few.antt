-- A double that two comparisons place between 1 and a whole number: its whole part, and the exponent's field of its pattern.
-- Assumes nothing.
use mathlib.Core.Path.{◌≡◌, refl, sym, ap, ◌∙◌, subst}
use mathlib.Core.Bool.{true, false, not, true≢false, false≢true}
use Prim.Native.Nat.{ℕ, ◌*◌, ◌/◌, ◌^◌, ◌≤◌, ◌<◌}
use native.Mathlib.Nat.{le_trans, le_of_eq, lt_of_lt_of_le, mul-one, mul_right_comm, lt_of_mul-lt-mul_right, le_of_mul-le-mul_right, div-lt_iff_lt-mul, le-div_iff_mul-le, zero-lt-suc}
use native.Mathlib.Omega.{arith}
use lib.Dec.{T, ltb, lit≤}
use lib.Ieee.{Float, nan, inf, fin, binary64, up, down, of_bits, to_unsigned, is_nan, lt, le}
use lib.Ieee.Exact.{HasValue}
use lib.Ieee.Fits.{down_pos}
use lib.Ieee.Order.{le_of_values}
use lib.Ieee.Positive.{positive, above, above_of_le, positive_of_value, values_of_le}
use borrow.Author.Tests.{ltb-true, ltb-false}
use Rattle.bits.specs.F64.{finite, one, whole}
use Rattle.bits.specs.Same.{same}
use Rattle.bits.proofs.Nan.{yes}
use Rattle.bits.proofs.Order.{as_eq}
use Rattle.bits.proofs.Tests.{by_test_lem}
use Rattle.bits.proofs.Whole.{cut_above, cut_none, cut_large, int_value, int_cut}
use Rattle.bits.proofs.Patterns.{pattern_eq}

-- 1.0 is 1
one_value : HasValue one false 1 1
unfolding of_bits
one_value = (refl, refl)

one_positive : T (positive one)
unfolding of_bits
one_positive = tt

-- ---- a fraction a / d beside the whole number n, which is k / c

-- below n, and so is its whole part
below : (a d k c n : ℕ) → 0 < d → k * 1 ≡ n * c → a * c < k * d → a / d < n
below a d k c n D v h = (div-lt_iff_lt-mul D).1 (lt_of_mul-lt-mul_right c (lt_of_lt_of_le h (le_of_eq (ap (λ (z : ℕ). z * d) (sym (mul-one k) ∙ v) ∙ mul_right_comm n c d))))

-- not below n, and neither is its whole part
from : (a d k c n : ℕ) → 0 < d → 0 < c → k * 1 ≡ n * c → k * d ≤ a * c → n ≤ a / d
from a d k c n D C v h = (le-div_iff_mul-le D).1 (le_of_mul-le-mul_right (le_trans (le_of_eq (mul_right_comm n d c ∙ ap (λ (z : ℕ). z * d) (sym v ∙ mul-one k))) h) C)

-- ---- a double x beside one that is n

pub part_below : (x y : Float) (n : ℕ) → 1 ≤ n → HasValue y false n 1 → lt x y ≡ true → to_unsigned 64 x < n
unfolding to_unsigned lt
part_below nan y n N v h = absurd (false≢true h)
part_below (inf true) y n N v h = N
part_below (inf false) nan n N v h = absurd v
part_below (inf false) (inf t) n N v h = absurd v
part_below (inf false) (fin t k d) n N v h = absurd (false≢true h)
part_below (fin true m e) y n N v h = N
part_below (fin false m e) nan n N v h = absurd v
part_below (fin false m e) (inf t) n N v h = absurd v
part_below (fin false m e) (fin true k d) n N v h = absurd (true≢false v.0)
part_below (fin false m e) (fin false k d) n N v h =
    omega (arith, below (m * up e) (down e) (k * up d) (down d) n (down_pos e) v.1 (ltb-true _ _ h))

pub part_from : (x y : Float) (n : ℕ) → n < 2 ^ 64 → HasValue y false n 1 → T (above x) → lt x y ≡ false → n ≤ to_unsigned 64 x
unfolding to_unsigned lt
part_from nan y n N v p h = absurd p
part_from (inf true) y n N v p h = absurd p
part_from (inf false) y n N v p h = omega arith
part_from (fin true m e) y n N v p h = absurd p
part_from (fin false m e) nan n N v p h = absurd v
part_from (fin false m e) (inf t) n N v p h = absurd v
part_from (fin false m e) (fin true k d) n N v p h = absurd (true≢false v.0)
part_from (fin false m e) (fin false k d) n N v p h =
    omega (arith, from (m * up e) (down e) (k * up d) (down d) n (down_pos e) (down_pos d) v.1 (ltb-false _ _ h))

-- the double that n was made to is n
pub is_whole : (y : Float) (n : ℕ) → n < 2 ^ 53 → y ≡ whole n → HasValue y false n 1
is_whole y n h e = subst (λ (x : Float). HasValue x false n 1) (sym e) (int_value n h)

-- what is n is finite
pub whole_finite : (n : ℕ) → n < 2 ^ 53 → finite (whole n) ≡ true
whole_finite n h = go (whole n) (int_value n h)
  where
    go : (x : Float) → HasValue x false n 1 → finite x ≡ true
    go nan v = absurd v
    go (inf s) v = absurd v
    go (fin s m e) v = refl

-- what is the same as n has the whole part n
pub whole_eq : (x : Float) (n : ℕ) → n < 2 ^ 53 → same x (whole n) ≡ true → to_unsigned 64 x ≡ n
whole_eq x n h e = ap (to_unsigned 64) (pattern_eq x (whole n) e) ∙ int_cut n h

-- ---- beside 1

-- what is above 0 is no NaN
pub above_number : (x : Float) → T (above x) → T (not (is_nan x))
unfolding is_nan
above_number nan p = absurd p
above_number (inf s) p = tt
above_number (fin s m e) p = tt

pub above_one : (x : Float) → le one x ≡ true → T (above x)
above_one x h = above_of_le one x one_positive (yes h)

-- what y, which is n, is at or below has a whole part from n on
pub part_least : (x y : Float) (n : ℕ) → 1 ≤ n → n < 2 ^ 64 → HasValue y false n 1 → le y x ≡ true → n ≤ to_unsigned 64 x
unfolding to_unsigned
part_least x y n P N v h = go x (above_of_le y x (positive_of_value y n 1 v P) (yes h)) (yes h)
  where
    go : (x : Float) → T (above x) → T (le y x) → n ≤ to_unsigned 64 x
    go nan p l = absurd p
    go (inf true) p l = absurd p
    go (inf false) p l = omega arith
    go (fin true m e) p l = absurd p
    go (fin false m e) p l =
        let a = values_of_le y (fin false m e) n 1 (m * up e) (down e) (positive_of_value y n 1 v P) p v (refl, refl) l in
        let b : n ≤ m * up e / down e = (le-div_iff_mul-le (down_pos e)).1 (le_trans a (le_of_eq (mul-one (m * up e)))) in
        omega arith

infinite : (y : Float) (n : ℕ) → HasValue y false n 1 → le y (inf false) ≡ true
unfolding le
infinite nan n v = absurd v
infinite (inf t) n v = absurd v
infinite (fin t k d) n v = refl

-- what it is not at or below has a smaller one: a NaN too, and what is below 0
pub part_short : (x y : Float) (n : ℕ) → 1 ≤ n → HasValue y false n 1 → le y x ≡ false → to_unsigned 64 x < n
unfolding to_unsigned
part_short nan y n P v h = P
part_short (inf true) y n P v h = P
part_short (inf false) y n P v h = absurd (true≢false (sym (infinite y n v) ∙ h))
part_short (fin true m e) y n P v h = P
part_short (fin false m e) y n P v h = by_test_lem (ltb (m * up e) (n * down e))
    (λ t. let b : m * up e / down e < n = (div-lt_iff_lt-mul (down_pos e)).1 (ltb-true _ _ t) in omega arith)
    (λ t. absurd (true≢false (sym (as_eq _ (le_of_values y (fin false m e) n 1 (m * up e) (down e) (zero-lt-suc 0) (down_pos e) v (refl, refl) (le_trans (ltb-false _ _ t) (le_of_eq (sym (mul-one (m * up e))))))) ∙ h)))

pub part_one : (x : Float) → le one x ≡ true → 1 ≤ to_unsigned 64 x
part_one x h = part_least x one 1 (lit≤ tt) (lit≤ tt) one_value h

pub part_none : (x : Float) → le one x ≡ false → to_unsigned 64 x ≡ 0
part_none x h = omega (arith, part_short x one 1 (lit≤ tt) one_value h)

-- ---- the pattern of a double whose whole part is from 1 on and under 2 ^ 52

pub placed : (b : ℕ) → 1 ≤ to_unsigned 64 (of_bits binary64 b) → to_unsigned 64 (of_bits binary64 b) < 2 ^ 52 → (b ≤ 0x7ff0_0000_0000_0000) × (1023 ≤ b / 2 ^ 52) × (b / 2 ^ 52 ≤ 1075)
placed b lo hi =
    by_test_lem (ltb 0x7ff0_0000_0000_0000 b) (λ t. absurd (omega (arith, cut_above 64 b (ltb-true _ _ t))))
    (λ t.
    let B = ltb-false 0x7ff0_0000_0000_0000 b t in (
      B,
      by_test_lem (ltb (b / 2 ^ 52) 1023) (λ u. absurd (omega (arith, cut_none b B (ltb-true _ _ u)))) (λ u. ltb-false _ _ u),
      by_test_lem (ltb 1075 (b / 2 ^ 52)) (λ u. absurd (omega (arith, cut_large b B (omega (arith, ltb-true 1075 (b / 2 ^ 52) u))))) (λ u. ltb-false _ _ u),
    ))
