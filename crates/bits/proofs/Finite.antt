-- How a program tests whether doubles are finite: a finite one less itself is +0, and any other less itself is the NaN, which stays in a sum. Assumes nothing.
use mathlib.Core.Path.{◌≡◌, refl, ap, ◌∙◌}
use mathlib.Core.Bool.{Bool, true, false, not, ◌&&◌, cond, false≢true}
use Prim.Native.Nat.{ℕ, ◌*◌, ◌<◌, zero-le}
use native.Mathlib.Nat.{sub_self, le_refl, mul-pos, zero-lt-suc, zero-mul}
use borrow.Author.Tests.{le-ltb}
use lib.Dec.{T, ltb}
use lib.IntN.{pos}
use lib.Ieee.{Float, nan, inf, fin, Format, binary64, up, down, sum, round, add, sub, mul, eq, lt, le, of_bits, is_nan}
use lib.Ieee.Fits.{down_pos}
use lib.Ieee.Scale.{round_same}
use Rattle.bits.specs.F64.{◌⊕◌, ◌⊖◌, ◌⊗◌, +0, finite}

-- +0 where the test passed, the NaN where it did not
abbrev pub zero_if : Bool → Float
zero_if b = cond b +0 nan

-- 0 rounded is +0
zero_over_one : round binary64 false 0 1 ≡ +0
unfolding round of_bits
zero_over_one = refl

-- so is 0 / c
zero_over : (c : ℕ) → 0 < c → round binary64 false 0 c ≡ +0
zero_over c h = round_same binary64 false 0 c 0 1 h (zero-lt-suc 0) (simp zero-mul) ∙ zero_over_one

-- ±a / c and ∓a / c add up to +0
cancels : (s : Bool) (a c : ℕ) → 0 < c → sum binary64 s a (not s) a c ≡ +0
unfolding sum
cancels true a c h = rw (le-ltb a a (le_refl a), sub_self) (zero_over c h)
cancels false a c h = rw (le-ltb a a (le_refl a), sub_self) (zero_over c h)

-- x - x
pub less_itself : (x : Float) → x ⊖ x ≡ zero_if (finite x)
unfolding sub
less_itself nan = refl
less_itself (inf true) = refl
less_itself (inf false) = refl
less_itself (fin s m e) = cancels s (m * up e * down e) (down e * down e) (mul-pos (down_pos e) (down_pos e))

-- such differences added up
pub zeros_add : (a b : Bool) → zero_if a ⊕ zero_if b ≡ zero_if (a && b)
unfolding add of_bits
zeros_add true true = refl
zeros_add true false = refl
zeros_add false b = refl

-- and compared with +0
pub zero_test : (b : Bool) → eq (zero_if b) +0 ≡ b
unfolding eq of_bits
zero_test true = refl
zero_test false = refl

-- `0.0 <= x - x` tests whether x is finite
pub zero_below : (b : Bool) → le +0 (zero_if b) ≡ b
unfolding le of_bits
zero_below true = refl
zero_below false = refl

pub finite_order : (x : Float) → le +0 (x ⊖ x) ≡ finite x
finite_order x = rw (less_itself x) (zero_below (finite x))

-- a sum is finite only where its terms are
pub sum_finite : (f : Format) (a b : Float) → finite (add f a b) ≡ true → (finite a ≡ true) × (finite b ≡ true)
unfolding add
sum_finite f nan b h = absurd (false≢true h)
sum_finite f (inf s) nan h = absurd (false≢true h)
sum_finite f (inf true) (inf true) h = absurd (false≢true h)
sum_finite f (inf true) (inf false) h = absurd (false≢true h)
sum_finite f (inf false) (inf true) h = absurd (false≢true h)
sum_finite f (inf false) (inf false) h = absurd (false≢true h)
sum_finite f (inf s) (fin t n d) h = absurd (false≢true h)
sum_finite f (fin s m e) nan h = absurd (false≢true h)
sum_finite f (fin s m e) (inf t) h = absurd (false≢true h)
sum_finite f (fin s m e) (fin t n d) h = (refl, refl)

-- ---- 0 or a NaN times y, compared with y

-- 0 rounded with a sign is 0 with that sign
zero_signed : (s : Bool) → round binary64 s 0 1 ≡ fin s 0 (pos 0)
unfolding round
zero_signed true = refl
zero_signed false = refl

-- so is 0 / c, and 0 times a finite number
zero_over_signed : (s : Bool) (a c : ℕ) → a ≡ 0 → 0 < c → round binary64 s a c ≡ fin s 0 (pos 0)
zero_over_signed s a c e h = round_same binary64 s a c 0 1 h (zero-lt-suc 0) (rw e (simp zero-mul)) ∙ zero_signed s

-- no number is below -0 that is not below +0
none_below : (b a : ℕ) → a ≡ 0 → ltb b a ≡ false
none_below b a e = le-ltb b a (rw e zero-le)

pub zero_times : (a : Bool) (y : Float) → lt (zero_if a ⊗ y) y ≡ (a && finite y && lt +0 y)
unfolding mul lt of_bits
zero_times false y = refl
zero_times true nan = refl
zero_times true (inf t) = refl
zero_times true (fin true n d) =
    ap (λ (z : Float). lt z (fin true n d)) (zero_over_signed true (0 * up (pos 0) * (n * up d)) (down (pos 0) * down d) (zero-mul (n * up d)) (mul-pos (down_pos (pos 0)) (down_pos d)))
    ∙ none_below (n * up d * down (pos 0)) (0 * up (pos 0) * down d) (zero-mul (down d))
zero_times true (fin false n d) =
    ap (λ (z : Float). lt z (fin false n d)) (zero_over_signed false (0 * up (pos 0) * (n * up d)) (down (pos 0) * down d) (zero-mul (n * up d)) (mul-pos (down_pos (pos 0)) (down_pos d)))

-- what is finite is no NaN
pub finite_number : (x : Float) → finite x ≡ true → T (not (is_nan x))
unfolding is_nan
finite_number nan e = absurd (false≢true e)
finite_number (inf s) e = tt
finite_number (fin s m e) h = tt
