-- What the small functions of the code do. No promise of a public function needs these.
-- Assumes nothing.
use Rattle.std.specs.Prelude.{ℕ, zero, suc, ◌+◌, ◌*◌, ◌≡◌, Bool, true, not, ◌&&◌, List, Float}
use Rattle.std.specs.Float.Ieee.{is_nan}
use Rattle.bits.specs.F64.{◌⊕◌, ◌⊖◌, ◌⊗◌, +0, one, two, finite}
use Rattle.bits.specs.Bytes.{every}
use Rattle.frame.specs.declared.State.{State}
use Rattle.cheby.specs.declared.Run.{Run}
use Rattle.cheby.specs.declared.SixRun.{SixRun}
use Rattle.cheby.specs.declared.Sums.{Sums}
use Rattle.cheby.specs.declared.Triple.{Triple}
use Rattle.cheby.specs.Cheby.{T, T', series_at, slope_at}

-- Whether none of the first m of f is a NaN.
unfoldable pub all_numbers : (ℕ → Float) → ℕ → Bool
all_numbers f zero = true
all_numbers f (suc m) = all_numbers f m && not (is_nan (f m))

-- Whether four sums are finite.
abbrev pub all_finite : Sums → Bool
all_finite z = finite z.a && finite z.b && finite z.c && finite z.d

-- One rule at each of the three series of n coefficients that follow each other from byte q on.
abbrev pub each : ((ℕ → Float) → Float) → List ℕ → ℕ → ℕ → Triple
each g kernel q n = record { x = g (every 8 kernel q); y = g (every 8 kernel (q + 8 * n)); z = g (every 8 kernel (q + 16 * n)) }

-- Their values at s.
abbrev pub values : List ℕ → ℕ → ℕ → Float → Triple
values kernel q n s = each (λ f. series_at f n s) kernel q n

-- Their derivatives at s.
abbrev pub slopes : List ℕ → ℕ → ℕ → Float → Triple
slopes kernel q n s = each (λ f. slope_at f n s) kernel q n

-- Three times +0.
abbrev pub none : Triple
none = record { x = +0; y = +0; z = +0 }

-- Three coefficients times a polynomial.
abbrev pub scaled : Triple → Float → Triple
scaled c t = record { x = c.x ⊗ t; y = c.y ⊗ t; z = c.z ⊗ t }

-- Three sums with one term more.
abbrev pub added : Triple → Triple → Float → Triple
added sum c t = record { x = sum.x ⊕ c.x ⊗ t; y = sum.y ⊕ c.y ⊗ t; z = sum.z ⊕ c.z ⊗ t }

-- A state of a position and a velocity.
abbrev pub joined : Triple → Triple → State
joined p v = record { x = p.x; y = p.y; z = p.z; vx = v.x; vy = v.y; vz = v.z }

-- The next polynomial, and its derivative, of the last two; `twice` is 2s.
abbrev pub next_of : Float → Float → Float → Float
next_of twice t₁ t₀ = twice ⊗ t₁ ⊖ t₀

abbrev pub next_slope : Float → Float → Float → Float → Float
next_slope twice t₁ d₁ d₀ = two ⊗ t₁ ⊕ twice ⊗ d₁ ⊖ d₀

-- The first two terms of three series.
abbrev pub begun : Triple → Triple → Float → Run
begun a b s = record { t0 = one; t1 = s; d0 = +0; d1 = one; value = added (scaled a one) b s; slope = scaled b one }

-- One term more.
abbrev pub turned : Run → Triple → Float → Run
turned z c twice =
    record {
      t0 = z.t1;
      t1 = next_of twice z.t1 z.t0;
      d0 = z.d1;
      d1 = next_slope twice z.t1 z.d1 z.d0;
      value = added z.value c (next_of twice z.t1 z.t0);
      slope = added z.slope c (next_slope twice z.t1 z.d1 z.d0);
    }

-- One term more of twice three series.
abbrev pub six_turned : SixRun → Triple → Triple → Float → SixRun
six_turned z c e twice =
    record { t0 = z.t1; t1 = next_of twice z.t1 z.t0; first = added z.first c (next_of twice z.t1 z.t0); second = added z.second e (next_of twice z.t1 z.t0) }

-- The sums over the first j + 2 terms of the three series from byte p on, with the polynomials j and j + 1.
pub record Summed (kernel : List ℕ) (p n : ℕ) (s : Float) (j : ℕ) (z : Run) : Type 0 where
  pub before : z.t0 ≡ T s j
  pub last : z.t1 ≡ T s (suc j)
  pub rate_before : z.d0 ≡ T' s j
  pub rate_last : z.d1 ≡ T' s (suc j)
  pub value : z.value ≡ each (λ f. series_at f (suc (suc j)) s) kernel p n
  pub slope : z.slope ≡ each (λ f. slope_at f (suc (suc j)) s) kernel p n

-- The same of those from byte p and from byte q on, without the derivatives.
pub record SixSummed (kernel : List ℕ) (p q n : ℕ) (s : Float) (j : ℕ) (z : SixRun) : Type 0 where
  pub before : z.t0 ≡ T s j
  pub last : z.t1 ≡ T s (suc j)
  pub first : z.first ≡ each (λ f. series_at f (suc (suc j)) s) kernel p n
  pub second : z.second ≡ each (λ f. series_at f (suc (suc j)) s) kernel q n
