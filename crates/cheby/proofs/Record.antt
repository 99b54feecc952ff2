-- From the series at their bytes to the records of the definitions; a record's number; and exactly when a type 2 record is refused.
-- Assumes nothing.
use Prim.Native.Nat.{ℕ, ◌+◌, ◌*◌, ◌≤◌, ◌<◌}
use mathlib.Core.Path.{◌≡◌, refl, ap, ap₂}
use mathlib.Core.Bool.{Bool, true, false}
use mathlib.Core.List.{List}
use native.Mathlib.Omega.{arith}
use lib.Ieee.{Float, eq}
use Rattle.bits.specs.F64.{◌⊖◌, ◌⊗◌, ◌⊘◌, +0, one}
use Rattle.bits.specs.Bytes.{double_at, every}
use Rattle.bits.proofs.Whole.{record_lt}
use Rattle.frame.specs.declared.State.{State}
use Rattle.cheby.specs.declared.Chosen.{Chosen}
use Rattle.cheby.specs.declared.Triple.{Triple}
use Rattle.std.proofs.Common.{Some, None}
use Rattle.cheby.specs.Cheby.{series_at, slope_at, coefficient, argument, value_of, rate_of, unless_zero, record2, record3, record_for, type2_of, type3_of}
use Rattle.cheby.specs.Steps.{values, slopes, scaled, joined}

-- a choice is its number and its reach
pub chosen_eq : (a b : Chosen) → a.number ≡ b.number → a.reach ≡ b.reach → a ≡ b
chosen_eq a b p q = λ i. record { number = p i; reach = q i }

module _ (kernel : List ℕ) (p n : ℕ) where
  -- series c of the record stands at byte q
  place : (c q : ℕ) → q ≡ p + 8 * (2 + c * n) → every 8 kernel q ≡ coefficient (every 8 kernel p) n c
  place c q e = λ i k. double_at kernel (at k i)
    where
      at : (k : ℕ) → q + 8 * k ≡ p + 8 * (2 + c * n + k)
      at k = omega arith

  module _ (et : Float) {mid radius : Float} (em : mid ≡ double_at kernel p) (er : radius ≡ double_at kernel (p + 8)) where
    -- the argument of the polynomials
    abbrev s : Float
    s = (et ⊖ mid) ⊘ radius

    argument_is : s ≡ argument (every 8 kernel p) et
    argument_is = rw (em, er) (ap (λ (q : ℕ). (et ⊖ double_at kernel q) ⊘ double_at kernel (p + 8)) (omega arith))

    -- the value of series c, which stands at byte q
    value_at_lem : (c q : ℕ) → q ≡ p + 8 * (2 + c * n) → series_at (every 8 kernel q) n s ≡ value_of (every 8 kernel p) n et c
    unfolding value_of
    value_at_lem c q e = ap₂ (λ (f : ℕ → Float) (a : Float). series_at f n a) (place c q e) argument_is

    -- its derivative by the epoch
    rate_at : (c q : ℕ) → q ≡ p + 8 * (2 + c * n) → slope_at (every 8 kernel q) n s ⊗ (one ⊘ radius) ≡ rate_of (every 8 kernel p) n et c
    unfolding rate_of
    rate_at c q e =
        ap₂ (λ (v r : Float). v ⊗ (one ⊘ r)) (ap₂ (λ (f : ℕ → Float) (a : Float). slope_at f n a) (place c q e) argument_is) er

    -- where RADIUS is not zero
    pub type2_some : {val der vel : Triple} {r : State} → eq (double_at kernel (p + 8)) +0 ≡ false → val ≡ values kernel (p + 16) n s → der ≡ slopes kernel (p + 16) n s
        → vel ≡ scaled der (one ⊘ radius) → r ≡ joined val vel → Some r ≡ type2_of kernel p n et
    unfolding record2
    type2_some t ev ed ew ej = rw (ej, ew, ed, ev, t) (λ i. Some (record {
      x = value_at_lem 0 (p + 16) (omega arith) i;
      y = value_at_lem 1 (p + 16 + 8 * n) (omega arith) i;
      z = value_at_lem 2 (p + 16 + 16 * n) (omega arith) i;
      vx = rate_at 0 (p + 16) (omega arith) i;
      vy = rate_at 1 (p + 16 + 8 * n) (omega arith) i;
      vz = rate_at 2 (p + 16 + 16 * n) (omega arith) i;
    }))

    -- six values
    pub type3_both : {val vel : Triple} {r : State} → val ≡ values kernel (p + 16) n s → vel ≡ values kernel (p + 16 + 24 * n) n s → r ≡ joined val vel → r ≡ type3_of kernel p n et
    unfolding record3
    type3_both ev ew ej = rw (ej, ew, ev) (λ i. record {
      x = value_at_lem 0 (p + 16) (omega arith) i;
      y = value_at_lem 1 (p + 16 + 8 * n) (omega arith) i;
      z = value_at_lem 2 (p + 16 + 16 * n) (omega arith) i;
      vx = value_at_lem 3 (p + 16 + 24 * n) (omega arith) i;
      vy = value_at_lem 4 (p + 16 + 24 * n + 8 * n) (omega arith) i;
      vz = value_at_lem 5 (p + 16 + 24 * n + 16 * n) (omega arith) i;
    })

-- ---- for other crates

-- a record's number is below the count of records
pub record_below : (init intlen et : Float) (n : ℕ) → 1 ≤ n → record_for init intlen et n < n
unfolding record_for
record_below init intlen et n h = record_lt ((et ⊖ init) ⊘ intlen) n h

-- a test passed where it gives no state
refused_test : (b : Bool) (a : State) → unless_zero b a ≡ None → b ≡ true
refused_test true a e = refl
refused_test false a e = let z : ◌≡◌ {A = ℕ} 0 1 = cc in absurd (omega arith)

-- a type 2 record is refused where its RADIUS is +0 or -0, and nowhere else
pub refused_where : (kernel : List ℕ) (p n : ℕ) (et : Float) → eq (double_at kernel (p + 8)) +0 ≡ true → type2_of kernel p n et ≡ None
unfolding record2
refused_where kernel p n et t = rw t

pub refused_only : (kernel : List ℕ) (p n : ℕ) (et : Float) → type2_of kernel p n et ≡ None → eq (double_at kernel (p + 8)) +0 ≡ true
unfolding record2
refused_only kernel p n et e = refused_test (eq (double_at kernel (p + 8)) +0) _ e
