-- A record's own doubles decide what it gives: two records that agree on their first 2 + 3n doubles, or 2 + 6n, give the same. The records may stand in two
-- kernels and at two places: `every 8 kernel p j` is the double at byte p + 8 j.
-- Assumes nothing.
use Prim.Native.Nat.{ℕ, zero, suc, ◌+◌, ◌*◌, ◌≤◌, ◌<◌}
use mathlib.Core.Path.{◌≡◌, refl, ap, ap₂, ◌∙◌}
use mathlib.Core.List.{List}
use native.Mathlib.Omega.{arith}
use lib.Ieee.{Float, eq}
use Rattle.bits.specs.F64.{◌⊕◌, ◌⊖◌, ◌⊗◌, ◌⊘◌, +0, one, sum_to}
use Rattle.bits.specs.Bytes.{double_at}
use Rattle.cheby.specs.Cheby.{T, T', series_at, slope_at, coefficient, value_of, rate_of, unless_zero, record2, record3, type2_of, type3_of}
use Rattle.bits.proofs.Agree.{Agree}

-- sums whose terms agree
sum_agree : (f g : ℕ → Float) (k : ℕ) → ((j : ℕ) → j ≤ k → f j ≡ g j) → sum_to f k ≡ sum_to g k
sum_agree f g zero e = e 0 (omega arith)
sum_agree f g (suc k) e = ap₂ (λ (s v : Float). s ⊕ v) (sum_agree f g k (λ j l. e j (omega arith))) (e (suc k) (omega arith))

-- series whose coefficients agree
pub series_agree : (f g : ℕ → Float) (n : ℕ) (s : Float) → ((k : ℕ) → k < n → f k ≡ g k) → series_at f n s ≡ series_at g n s
unfolding series_at
series_agree f g zero s e = refl
series_agree f g (suc zero) s e = e 0 (omega arith)
series_agree f g (suc (suc k)) s e = sum_agree _ _ (suc k) (λ j l. ap (λ (x : Float). x ⊗ T s j) (e j (omega arith)))

pub slope_agree : (f g : ℕ → Float) (n : ℕ) (s : Float) → ((k : ℕ) → k < n → f k ≡ g k) → slope_at f n s ≡ slope_at g n s
unfolding slope_at
slope_agree f g zero s e = refl
slope_agree f g (suc zero) s e = refl
slope_agree f g (suc (suc k)) s e = sum_agree _ _ k (λ j l. ap (λ (x : Float). x ⊗ T' s (suc j)) (e (suc j) (omega arith)))

-- ---- records that agree on their first m doubles

module _ (r r' : ℕ → Float) (n : ℕ) (et : Float) {m : ℕ} (a : Agree r r' m) where
  -- the value of series c, which ends before double m
  value_agree : (c : ℕ) → 2 + c * n + n ≤ m → value_of r n et c ≡ value_of r' n et c
  unfolding value_of
  value_agree c h =
      series_agree _ _ n _ (λ k l. a.same (2 + c * n + k) (omega arith))
      ∙ ap₂ (λ (mid radius : Float). series_at (coefficient r' n c) n ((et ⊖ mid) ⊘ radius)) (a.same 0 (omega arith)) (a.same 1 (omega arith))

  -- its derivative by the epoch
  rate_agree : (c : ℕ) → 2 + c * n + n ≤ m → rate_of r n et c ≡ rate_of r' n et c
  unfolding rate_of
  rate_agree c h =
      ap (λ (x : Float). x ⊗ (one ⊘ r 1)) (slope_agree _ _ n _ (λ k l. a.same (2 + c * n + k) (omega arith)))
      ∙ ap₂ (λ (mid radius : Float). slope_at (coefficient r' n c) n ((et ⊖ mid) ⊘ radius) ⊗ (one ⊘ radius)) (a.same 0 (omega arith)) (a.same 1 (omega arith))

  record2_agree : 2 + 3 * n ≤ m → record2 r n et ≡ record2 r' n et
  unfolding record2
  record2_agree h = λ i.
      unless_zero (eq (a.same 1 (omega arith) i) +0) (record {
        x = value_agree 0 (omega arith) i;
        y = value_agree 1 (omega arith) i;
        z = value_agree 2 (omega arith) i;
        vx = rate_agree 0 (omega arith) i;
        vy = rate_agree 1 (omega arith) i;
        vz = rate_agree 2 (omega arith) i;
      })

  record3_agree : 2 + 6 * n ≤ m → record3 r n et ≡ record3 r' n et
  unfolding record3
  record3_agree h = λ i. record {
    x = value_agree 0 (omega arith) i;
    y = value_agree 1 (omega arith) i;
    z = value_agree 2 (omega arith) i;
    vx = value_agree 3 (omega arith) i;
    vy = value_agree 4 (omega arith) i;
    vz = value_agree 5 (omega arith) i;
  }

-- ---- in two kernels, at two places

module _ (kernel kernel' : List ℕ) (p p' n : ℕ) (et : Float) where
  -- a type 2 record gives what its own 2 + 3n doubles say
  pub type2_own : ((j : ℕ) → j < 2 + 3 * n → double_at kernel (p + 8 * j) ≡ double_at kernel' (p' + 8 * j)) → type2_of kernel p n et ≡ type2_of kernel' p' n et
  type2_own e = record2_agree _ _ n et (record { same = e }) (omega arith)

  -- a type 3 record gives what its own 2 + 6n doubles say
  pub type3_own : ((j : ℕ) → j < 2 + 6 * n → double_at kernel (p + 8 * j) ≡ double_at kernel' (p' + 8 * j)) → type3_of kernel p n et ≡ type3_of kernel' p' n et
  type3_own e = record3_agree _ _ n et (record { same = e }) (omega arith)
