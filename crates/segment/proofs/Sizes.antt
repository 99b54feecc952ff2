-- What the test of RSIZE tells: a record is 2 + series * C doubles, with C at least 1, and nothing else passes. Assumes nothing.
use Prim.Native.Nat.{ℕ, ◌+◌, ◌-◌, ◌*◌, ◌/◌, ◌≤◌}
use mathlib.Core.Path.{◌≡◌, refl, ap, ◌∙◌}
use mathlib.Core.Bool.{false, not}
use native.Mathlib.Nat.{le_trans, le_of_eq, one-mul, mul-div_right, le-div_iff_mul-le}
use native.Mathlib.Omega.{arith}
use lib.Dec.{eqb, ltb}
use borrow.Author.Tests.{ltb-false, eqb-true, not-false, le-ltb, eq-eqb}
use Rattle.segment.specs.Malformed.{coefficients, bad_size}
use Rattle.segment.proofs.Tests.{or_first, or_second}

module _ (series rsize : ℕ) where
  -- where it passes, C is at least 1
  pub some_coefficients : bad_size series rsize ≡ false → 1 ≤ coefficients series rsize
  some_coefficients e = ltb-false (coefficients series rsize) 1 (or_first _ (not (eqb rsize (2 + series * coefficients series rsize))) e)

  -- and RSIZE is 2 + series * C
  pub record_size : bad_size series rsize ≡ false → rsize ≡ 2 + series * coefficients series rsize
  record_size e = eqb-true rsize _ (not-false _ (or_second (ltb (coefficients series rsize) 1) _ e))

  -- so it is not 0
  pub at_least_size : bad_size series rsize ≡ false → 1 ≤ rsize
  at_least_size e = let h = record_size e in omega arith

-- a record with room for a coefficient in each series that is 2 + series * C passes
pub room_passes : (series rsize : ℕ) → 1 ≤ series → 2 + series ≤ rsize → rsize ≡ 2 + series * coefficients series rsize → bad_size series rsize ≡ false
room_passes series rsize s h e =
    let room : 1 * series ≤ rsize - 2 = le_trans (le_of_eq (one-mul series)) (omega arith) in
    rw (le-ltb (coefficients series rsize) 1 ((le-div_iff_mul-le s).1 room), eq-eqb rsize (2 + series * coefficients series rsize) e)

-- every such number passes
pub sizes_pass : (series c : ℕ) → 1 ≤ series → 1 ≤ c → bad_size series (2 + series * c) ≡ false
sizes_pass series c s h =
    let q : coefficients series (2 + series * c) ≡ c = ap (λ (n : ℕ). n / series) (less_two (series * c)) ∙ mul-div_right c s in
    rw (q, le-ltb c 1 h, eq-eqb (2 + series * c) (2 + series * c) refl)
  where
    less_two : (n : ℕ) → 2 + n - 2 ≡ n
    less_two n = omega arith
