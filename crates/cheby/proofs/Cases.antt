-- Worked cases, closed by computation once the operators of `lib.Ieee` are unfolded. Those of RULES, "Worked numbers", stand in `worked`.
-- Assumes nothing.
use mathlib.Core.Path.{◌≡◌, refl}
use mathlib.Core.List.{List, [], ◌∷◌}
use lib.Ieee.{Float, add, sub, mul, div, eq, neg, of_bits, of_int}
use Rattle.bits.specs.F64.{◌⊘◌, at, +0, one, whole}
use Rattle.std.proofs.Common.{None}
use Rattle.cheby.specs.Cheby.{series_at, slope_at, value_of, rate_of, record2, record3}

abbrev pub half : Float
half = whole 1 ⊘ whole 2

abbrev pub -0 : Float
-0 = neg +0

-- The coefficients 1, 2, 3.
abbrev pub series : List Float
series = whole 1 ∷ whole 2 ∷ whole 3 ∷ []

-- Sums start with their first product: two coefficients of -0 at s = 1 give -0, which a sum that started at +0 would not. One coefficient gives itself and
-- the derivative +0.
pub case_first : (series_at (at (-0 ∷ -0 ∷ [])) 2 one ≡ -0) × (series_at (at (-0 ∷ [])) 1 half ≡ -0) × (slope_at (at (-0 ∷ [])) 1 half ≡ +0)
unfolding series_at slope_at add sub mul div neg of_bits of_int
case_first = (refl, refl, refl)

-- RADIUS +0 and -0 are refused in type 2; a type 3 record of one coefficient still answers.
pub case_zero : (record2 (at (whole 0 ∷ +0 ∷ series)) 1 (whole 1) ≡ None) × (record2 (at (whole 0 ∷ -0 ∷ series)) 1 (whole 1) ≡ None)
    × (record3 (at (whole 0 ∷ +0 ∷ whole 7 ∷ whole 8 ∷ whole 9 ∷ series)) 1 (whole 1)
    ≡ record { x = whole 7; y = whole 8; z = whole 9; vx = whole 1; vy = whole 2; vz = whole 3 })
unfolding record2 record3 value_of rate_of series_at slope_at add sub mul div eq neg of_bits of_int
case_zero = (refl, refl, refl)
