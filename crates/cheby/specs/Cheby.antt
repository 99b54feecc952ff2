-- Chebyshev series over binary64, from the mathematics, and the records that hold them: types 2 and 3 of SPK, and type 2 of PCK, which is SPK's with
-- angles for places. A series is a function c from a place to a coefficient, and a count n: one definition serves every channel and every type.
-- Assumes nothing.
use Rattle.std.specs.Prelude.{ℕ, zero, suc, ◌+◌, ◌*◌, Bool, true, false, List, Float, Option, Some, None}
use Rattle.std.specs.Float.Ieee.{eq}
use Rattle.bits.specs.F64.{◌⊕◌, ◌⊖◌, ◌⊗◌, ◌⊘◌, +0, one, two, sum_to}
use Rattle.bits.specs.Bytes.{every}
use Rattle.bits.specs.Record.{record_of, reach_of}
use Rattle.bits.specs.declared.Reach.{Reach}
use Rattle.frame.specs.declared.State.{State}
use Rattle.cheby.specs.declared.Chosen.{Chosen}

-- ---- series

-- The polynomials: T 0 = 1, T 1 = s, T (k+2) = (2s) T (k+1) - T k.
unfoldable pub T : Float → ℕ → Float
T s zero = one
T s (suc zero) = s
T s (suc (suc k)) = two ⊗ s ⊗ T s (suc k) ⊖ T s k

-- Their derivatives: T' (k+2) = 2 T (k+1) + (2s) T' (k+1) - T' k.
unfoldable pub T' : Float → ℕ → Float
unfolding T
T' s zero = +0
T' s (suc zero) = one
T' s (suc (suc k)) = two ⊗ T s (suc k) ⊕ two ⊗ s ⊗ T' s (suc k) ⊖ T' s k

-- The value of n coefficients at s: the sum of the products, the first of them first. One coefficient gives itself, and none +0.
unfoldable pub series_at : (ℕ → Float) → ℕ → Float → Float
unfolding T
series_at c zero s = +0
series_at c (suc zero) s = c zero
series_at c (suc (suc k)) s = sum_to (λ j. c j ⊗ T s j) (suc k)

-- The derivative by s: its sum starts with coefficient 1. Fewer than two coefficients give +0.
unfoldable pub slope_at : (ℕ → Float) → ℕ → Float → Float
unfolding T'
slope_at c zero s = +0
slope_at c (suc zero) s = +0
slope_at c (suc (suc k)) s = sum_to (λ j. c (suc j) ⊗ T' s (suc j)) k

-- ---- records. A record is a function r from a number to a double: MID, RADIUS, and the series, n coefficients each

-- Coefficient k of series c.
abbrev pub coefficient : (ℕ → Float) → ℕ → ℕ → ℕ → Float
coefficient r n c k = r (2 + c * n + k)

-- The argument of the polynomials: (et - MID) / RADIUS.
abbrev pub argument : (ℕ → Float) → Float → Float
argument r et = (et ⊖ r 0) ⊘ r 1

-- The value of series c.
unfoldable pub value_of : (ℕ → Float) → ℕ → Float → ℕ → Float
value_of r n et c = series_at (coefficient r n c) n (argument r et)

-- Its derivative by the epoch: that by s, times 1 / RADIUS.
unfoldable pub rate_of : (ℕ → Float) → ℕ → Float → ℕ → Float
rate_of r n et c = slope_at (coefficient r n c) n (argument r et) ⊗ (one ⊘ r 1)

-- A state, unless RADIUS is zero.
abbrev pub unless_zero : Bool → State → Option State
unless_zero true a = None
unless_zero false a = Some a

-- Type 2: three series and their derivatives. A RADIUS of +0 or -0 is refused.
unfoldable pub record2 : (ℕ → Float) → ℕ → Float → Option State
record2 r n et =
    unless_zero (eq (r 1) +0)
    (record {
      x = value_of r n et 0;
      y = value_of r n et 1;
      z = value_of r n et 2;
      vx = rate_of r n et 0;
      vy = rate_of r n et 1;
      vz = rate_of r n et 2;
    })

-- Type 3: six series. No RADIUS is refused.
unfoldable pub record3 : (ℕ → Float) → ℕ → Float → State
record3 r n et =
    record {
      x = value_of r n et 0;
      y = value_of r n et 1;
      z = value_of r n et 2;
      vx = value_of r n et 3;
      vy = value_of r n et 4;
      vz = value_of r n et 5;
    }

-- ---- in a kernel

-- How many intervals et lies after init.
abbrev pub quotient : Float → Float → Float → Float
quotient init intlen et = (et ⊖ init) ⊘ intlen

-- The record for et, of n that begin at init and are intlen long each.
unfoldable pub record_for : Float → Float → Float → ℕ → ℕ
record_for init intlen et n = record_of (quotient init intlen et) n

-- Where et falls beside them.
unfoldable pub reach_for : Float → Float → Float → ℕ → Reach
reach_for init intlen et n = reach_of (quotient init intlen et) n

-- Both.
abbrev pub chosen_for : Float → Float → Float → ℕ → Chosen
chosen_for init intlen et n = record { number = record_for init intlen et n; reach = reach_for init intlen et n }

-- The record of type 2 whose first double is at byte p.
abbrev pub type2_of : List ℕ → ℕ → ℕ → Float → Option State
type2_of kernel p n et = record2 (every 8 kernel p) n et

-- The record of type 3 whose first double is at byte p.
abbrev pub type3_of : List ℕ → ℕ → ℕ → Float → State
type3_of kernel p n et = record3 (every 8 kernel p) n et
