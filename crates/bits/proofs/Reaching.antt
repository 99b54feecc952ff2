-- Where a quotient falls beside n records, by the comparisons that a program makes: it is before them exactly where it is below 0, and else its whole
-- part decides. Assumes nothing.
use mathlib.Core.Path.{◌≡◌, refl, sym, ap, ◌∙◌}
use mathlib.Core.Bool.{Bool, true, false, cond, true≢false, false≢true}
use Prim.Native.Nat.{ℕ, zero, suc, ◌+◌, ◌-◌, ◌*◌, ◌/◌, ◌^◌, ◌≤◌, ◌<◌, min}
use native.Mathlib.Nat.{mul-one, zero-mul, div-eq_of_lt, le-div_iff_mul-le}
use native.Mathlib.Omega.{arith}
use lib.Dec.{ltb}
use lib.IntN.{ℤ, pos, neg_ℤ}
use lib.Ieee.{Float, nan, inf, fin, up, down, of_bits, to_unsigned, lt}
use lib.Ieee.Fits.{down_pos}
use borrow.Author.Tests.{ltb-true, ltb-false, lt-ltb, le-ltb}
use Rattle.bits.specs.F64.{+0}
use Rattle.bits.specs.Record.{floor_of, beside, reach_of}
use Rattle.bits.specs.declared.Reach.TheVariants.{Before, Inside, After}
use Rattle.bits.proofs.Tests.{by_test_lem}

-- a fraction above 0 has 1 at least above it, and one that is 0 has 0
some_above : (a d : ℕ) → 0 < d → 0 < a → 1 ≤ (a + (d - 1)) / d
some_above a d D A = (le-div_iff_mul-le D).1 (omega arith)

none_above : (a d : ℕ) → 0 < d → a ≡ 0 → (a + (d - 1)) / d ≡ 0
none_above a d D A = div-eq_of_lt (omega arith)

-- a whole number below 0 is before them
beside_low : (n c : ℕ) → 1 ≤ c → Before ≡ beside n (neg_ℤ (pos c))
unfolding beside
beside_low n zero h = absurd (omega arith)
beside_low n (suc c) h = refl

-- m * 2 ^ e beside +0, as a comparison has the two
abbrev here : ℕ → ℤ → ℕ
here m e = m * up e * down (pos 0)

abbrev zero_there : ℤ → ℕ
zero_there e = 0 * up (pos 0) * down e

zero_is : (e : ℤ) → zero_there e ≡ 0
zero_is e = zero-mul (down e)

-- what is below 0 is before them
pub before_all : (q : Float) (n : ℕ) → lt q +0 ≡ true → Before ≡ reach_of q n
unfolding lt of_bits reach_of floor_of beside
before_all nan n h = absurd (false≢true h)
before_all (inf true) n h = refl
before_all (inf false) n h = absurd (false≢true h)
before_all (fin true m e) n h = beside_low n _ (some_above (m * up e) (down e) (down_pos e) (omega (arith, ltb-true 0 (here m e + zero_there e) h, mul-one (m * up e), zero_is e)))
before_all (fin false m e) n h = absurd (omega (arith, ltb-true (here m e) (zero_there e) h, zero_is e))

-- a number below n is inside, and another after
within : (n a : ℕ) → a < n → cond (ltb (n - 1) a) After Inside ≡ Inside
within n a h = ap (λ (b : Bool). cond b After Inside) (le-ltb (n - 1) a (omega arith))

past : (n a : ℕ) → 1 ≤ n → n ≤ a → cond (ltb (n - 1) a) After Inside ≡ After
past n a P h = ap (λ (b : Bool). cond b After Inside) (lt-ltb (n - 1) a (omega arith))

-- and of what isn't the whole part at 64 bits says whether it is after them
pub reach_cut : (q : Float) (n : ℕ) → 1 ≤ n → n < 2 ^ 64 → lt q +0 ≡ false → reach_of q n ≡ cond (ltb (n - 1) (to_unsigned 64 q)) After Inside
unfolding lt of_bits reach_of floor_of beside to_unsigned
reach_cut nan n P N h = sym (within n 0 P)
reach_cut (inf true) n P N h = absurd (true≢false h)
reach_cut (inf false) n P N h = sym (past n (2 ^ 64 - 1) P (omega arith))
reach_cut (fin true m e) n P N h =
    ap (λ (c : ℕ). beside n (neg_ℤ (pos c))) (none_above (m * up e) (down e) (down_pos e) (omega (arith, ltb-false 0 (here m e + zero_there e) h, mul-one (m * up e), zero_is e)))
reach_cut (fin false m e) n P N h = go (m * up e / down e)
  where
    go : (a : ℕ) → cond (ltb (n - 1) a) After Inside ≡ cond (ltb (n - 1) (min a (2 ^ 64 - 1))) After Inside
    go a = by_test_lem (ltb a n) (λ t. let l = ltb-true a n t in within n a l ∙ sym (within n (min a (2 ^ 64 - 1)) (omega arith)))
        (λ t. let l = ltb-false a n t in past n a P l ∙ sym (past n (min a (2 ^ 64 - 1)) P (omega arith)))

-- so it is inside where that is below n, and after them where it is not
pub inside_all : (q : Float) (n : ℕ) → n < 2 ^ 64 → lt q +0 ≡ false → to_unsigned 64 q < n → Inside ≡ reach_of q n
inside_all q n N h l = sym (reach_cut q n (omega arith) N h ∙ within n (to_unsigned 64 q) l)

pub after_all : (q : Float) (n : ℕ) → 1 ≤ n → n < 2 ^ 64 → lt q +0 ≡ false → n ≤ to_unsigned 64 q → After ≡ reach_of q n
after_all q n P N h l = sym (reach_cut q n P N h ∙ past n (to_unsigned 64 q) P l)
