-- Functions that agree on the first n places: an array that was filled from a kernel, and the kernel's own numbers. Each definition of the port reads
-- no further, so that it may be said of the kernel and computed from the array.
-- Assumes nothing.
use Prim.Native.Nat.{ℕ, zero, suc, ◌<◌}
use mathlib.Core.Path.{◌≡◌, refl, ap₂}
use native.Mathlib.Omega.{arith}
use lib.Ieee.{Float}
use Rattle.bits.specs.F64.{◌⊕◌, sum_from0}

pub record Agree (f f' : ℕ → Float) (n : ℕ) : Type 0 where
  pub same : (k : ℕ) → k < n → f k ≡ f' k

pub sum_agree : (f f' : ℕ → Float) (n : ℕ) → ((k : ℕ) → k < n → f k ≡ f' k) → sum_from0 f n ≡ sum_from0 f' n
sum_agree f f' zero e = refl
sum_agree f f' (suc n) e = ap₂ (λ (s v : Float). s ⊕ v) (sum_agree f f' n (λ k l. e k (omega arith))) (e n (omega arith))
