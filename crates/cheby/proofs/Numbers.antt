-- A run of doubles with no NaN among them, and how it is found: a difference is finite only where all that went into it is, and the power of two of a NaN's
-- pattern is infinity.
-- Assumes nothing.
use mathlib.Core.Path.{◌≡◌, refl, sym, ap, ◌∙◌}
use mathlib.Core.Bool.{Bool, true, false, not, ◌&&◌, false≢true}
use mathlib.Core.Logic.{⊎_elim}
use mathlib.Core.List.{List}
use Prim.Native.Nat.{ℕ, zero, suc, ◌+◌, ◌-◌, ◌*◌, ◌/◌, ◌%◌, ◌≤◌, ◌<◌}
use native.Mathlib.Nat.{eq-or-lt_of_le, add-zero}
use native.Mathlib.Omega.{arith}
use lib.Dec.{ltb}
use lib.Ieee.{Float, nan, inf, fin, Format, binary32, binary64, is_nan, of_bits, nan_bits, sub, neg, le}
use lib.Ieee.Bits.{nan_bits_is, nan_bits_above}
use borrow.Author.Tests.{le-ltb, ltb-true, ltb-false}
use Rattle.bits.proofs.Finite.{sum_finite}
use Rattle.bits.specs.F64.{finite}
use Rattle.bits.specs.Bytes.{double_of, double_at, every}
use Rattle.bits.proofs.Tests.{and_first, and_second, by_test_lem}
use Rattle.cheby.specs.Steps.{all_numbers}

-- ---- differences that are finite

neg_finite : (b : Float) → finite (neg b) ≡ finite b
unfolding neg
neg_finite nan = refl
neg_finite (inf s) = refl
neg_finite (fin s m e) = refl

pub less_finite : (f : Format) (a b : Float) → finite (sub f a b) ≡ true → (finite a ≡ true) × (finite b ≡ true)
unfolding sub
less_finite f a b h = let p = sum_finite f a (neg b) h in (p.0, sym (neg_finite b) ∙ p.1)

-- nothing is at most a NaN
no_order : (z : Float) → le z nan ≡ false
unfolding le
no_order nan = refl
no_order (inf s) = refl
no_order (fin s m e) = refl

-- so where a number is at most x - x, x is finite
pub own_finite : (f : Format) (z x : Float) → le z (sub f x x) ≡ true → finite x ≡ true
unfolding sub
own_finite f z nan h = absurd (false≢true (sym (no_order z) ∙ h))
own_finite f z (inf true) h = absurd (false≢true (sym (no_order z) ∙ h))
own_finite f z (inf false) h = absurd (false≢true (sym (no_order z) ∙ h))
own_finite f z (fin s m e) h = refl

-- four tests that passed together
pub all_four : (p q r t : Bool) → (p && q && r && t) ≡ true → (p ≡ true) × (q ≡ true) × (r ≡ true) × (t ≡ true)
all_four p q r t e =
    let three = and_first (p && q && r) t e in
    let two = and_first (p && q) r three in
    (and_first p q two, and_second p q two, and_second (p && q) r three, and_second (p && q && r) t e)

-- ---- the power of two of a pattern

-- the power's own pattern, of 32 bits
abbrev pub power : ℕ → ℕ
power b = b / 4294967296 % 0x8000_0000 / 0x80_0000 * 0x80_0000

-- no pattern of 32 bits up to infinity's is a NaN's
pub under_nan : (b : ℕ) → b ≤ 0x7f80_0000 → nan_bits binary32 b ≡ false
under_nan b h = nan_bits_above binary32 b ∙ le-ltb 0x7f80_0000 (b % 0x8000_0000) (omega arith)

-- infinity is not finite
top_infinite : finite (of_bits binary32 0x7f80_0000) ≡ false
unfolding of_bits
top_infinite = refl

-- a NaN's power is infinity
pub power_clear : (b : ℕ) → finite (of_bits binary32 (power b)) ≡ true → is_nan (double_of b) ≡ false
power_clear b h = by_test_lem (ltb 0x7ff0_0000_0000_0000 (b % 0x8000_0000_0000_0000)) over under
  where
    under : ltb 0x7ff0_0000_0000_0000 (b % 0x8000_0000_0000_0000) ≡ false → is_nan (double_of b) ≡ false
    under e = sym (nan_bits_is binary64 b) ∙ nan_bits_above binary64 b ∙ e

    over : ltb 0x7ff0_0000_0000_0000 (b % 0x8000_0000_0000_0000) ≡ true → is_nan (double_of b) ≡ false
    over e =
        let l = ltb-true 0x7ff0_0000_0000_0000 (b % 0x8000_0000_0000_0000) e in
        let p : power b ≡ 0x7f80_0000 = omega arith in
        absurd (false≢true (sym top_infinite ∙ sym (ap (λ (k : ℕ). finite (of_bits binary32 k)) p) ∙ h))

-- ---- runs

-- each double of such a run is a number
pub number_in : (f : ℕ → Float) (m j : ℕ) → all_numbers f m ≡ true → j < m → is_nan (f j) ≡ false
unfolding all_numbers
number_in f zero j e h = absurd (omega arith)
number_in f (suc m) j e h =
    let at_most : j ≤ m = omega arith in
    ⊎_elim (λ q. rw q (last (all_numbers f m) (is_nan (f m)) e)) (λ q. number_in f m j (and_first (all_numbers f m) (not (is_nan (f m))) e) q) (eq-or-lt_of_le at_most)
  where
    last : (x y : Bool) → x && not y ≡ true → y ≡ false
    last true true p = sym p
    last true false p = refl
    last false y p = absurd (false≢true p)

-- and where each is, the run is such a one
pub numbers_all : (f : ℕ → Float) (m : ℕ) → ((j : ℕ) → j < m → is_nan (f j) ≡ false) → all_numbers f m ≡ true
unfolding all_numbers
numbers_all f zero h = refl
numbers_all f (suc m) h = rw (numbers_all f m (λ j l. h j (omega arith)), h m (omega arith))

module _ (kernel : List ℕ) (p m : ℕ) where
  -- the double at byte `at`, if that is double j of the run
  pub clear_at : (j at : ℕ) → all_numbers (every 8 kernel p) m ≡ true → j < m → p + 8 * j ≡ at → is_nan (double_at kernel at) ≡ false
  clear_at j at all h place = ap (λ (q : ℕ). is_nan (double_at kernel q)) (sym place) ∙ number_in (every 8 kernel p) m j all h

  -- a part of the run, from byte q on
  pub numbers_part : (q c b : ℕ) → all_numbers (every 8 kernel p) m ≡ true → q ≡ p + 8 * c → c + b ≤ m → all_numbers (every 8 kernel q) b ≡ true
  numbers_part q c b all e h = numbers_all (every 8 kernel q) b (λ j l. clear_at (c + j) (q + 8 * j) all (omega arith) (omega arith))

  -- a run and another from byte q on, which stands within it or at its end
  pub numbers_joined : (a q c b : ℕ) → all_numbers (every 8 kernel p) a ≡ true → all_numbers (every 8 kernel q) b ≡ true → q ≡ p + 8 * c → c ≤ a → m ≤ c + b
      → all_numbers (every 8 kernel p) m ≡ true
  numbers_joined a q c b first second e h g = numbers_all (every 8 kernel p) m (λ j l. by_test_lem (ltb j a) (λ t. number_in (every 8 kernel p) a j first (ltb-true j a t)) (behind j l))
    where
      behind : (j : ℕ) → j < m → ltb j a ≡ false → is_nan (every 8 kernel p j) ≡ false
      behind j l t =
          let out : a ≤ j = ltb-false j a t in
          let place : p + 8 * j ≡ q + 8 * (j - c) = omega arith in
          ap (λ (x : ℕ). is_nan (double_at kernel x)) place ∙ number_in (every 8 kernel q) b (j - c) second (omega arith)

-- four doubles one after the other
pub numbers_four : (kernel : List ℕ) (at : ℕ) → is_nan (double_at kernel at) ≡ false → is_nan (double_at kernel (at + 8)) ≡ false → is_nan (double_at kernel (at + 16)) ≡ false
    → is_nan (double_at kernel (at + 24)) ≡ false → all_numbers (every 8 kernel at) 4 ≡ true
numbers_four kernel at a b c d = numbers_all (every 8 kernel at) 4 go
  where
    go : (j : ℕ) → j < 4 → is_nan (every 8 kernel at j) ≡ false
    go zero l = ap (λ (x : ℕ). is_nan (double_at kernel x)) (add-zero at) ∙ a
    go (suc zero) l = b
    go (suc (suc zero)) l = c
    go (suc (suc (suc zero))) l = d
    go (suc (suc (suc (suc j)))) l = absurd (omega arith)
