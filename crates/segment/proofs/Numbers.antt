-- The arithmetic of the guards: with a factor over the length the product is over it too, and below it the product fits. Assumes nothing.
use Prim.Native.Nat.{ℕ, ◌-◌, ◌*◌, ◌/◌, ◌^◌, ◌≤◌, ◌<◌}
use mathlib.Core.Path.{◌≡◌, sym, ap, ◌∙◌}
use native.Mathlib.Nat.{zero-div, mul-div-le, mul-le-mul, le_trans, le_of_eq, le-mul_of_pos_right, mul_comm}
use native.Mathlib.Omega.{arith}
use mathlib.Core.Bool.{true, false}
use lib.Dec.{ltb}
use borrow.Author.Tests.{lt-ltb, le-ltb}

-- the coefficients of all series are at most the record
pub within_record : (series rsize : ℕ) → series * ((rsize - 2) / series) ≤ rsize - 2
within_record series rsize = mul-div-le (rsize - 2) series

-- each factor is at most the product, where the other is not 0
pub left_factor : (n r : ℕ) → 1 ≤ r → n ≤ n * r
left_factor n r h = le-mul_of_pos_right n h

pub right_factor : (n r : ℕ) → 1 ≤ n → r ≤ n * r
right_factor n r h = le_trans (le-mul_of_pos_right r h) (le_of_eq (mul_comm r n))

-- a product of two numbers below 2 ^ 31
pub small_product : (n r : ℕ) → n < 2 ^ 31 → r < 2 ^ 31 → n * r ≤ 2 ^ 31 * 2 ^ 31
small_product n r h g = mul-le-mul {n₂ = 2 ^ 31} {m₂ = 2 ^ 31} (omega arith) (omega arith)

-- a bound by a size that is known
pub by_size : (n size end : ℕ) → n ≡ size → n ≤ end → size ≤ end
by_size n size end e h = omega arith

-- a test against a size that is known
pub under_size : (len n size : ℕ) → n ≡ size → len < n → ltb len size ≡ true
under_size len n size e h = lt-ltb len size (omega arith)

pub over_size : (len n size : ℕ) → n ≡ size → n ≤ len → ltb len size ≡ false
over_size len n size e h = le-ltb len size (omega arith)
