-- What the definitions read: the table the 2n doubled nodes, and the first n values and slopes.
-- Assumes nothing.
use Prim.Native.Nat.{ℕ, zero, suc, ◌+◌, ◌-◌, ◌*◌, ◌/◌, ◌≤◌, ◌<◌}
use mathlib.Core.List.{List}
use mathlib.Core.Path.{◌≡◌, refl}
use native.Mathlib.Nat.{add-zero}
use native.Mathlib.Omega.{arith}
use lib.Ieee.{Float}
use Rattle.bits.specs.F64.{at}
use Rattle.bits.specs.Bytes.{every}
use Rattle.bits.proofs.Agree.{Agree}
use Rattle.bits.proofs.Fill.{Filled}
use Rattle.hermite.specs.declared.Point.{Point}
use Rattle.hermite.specs.Hermite.{doubled, difference, product, product', value_to, slope_to, table_of, hermite_of}
use Rattle.hermite.specs.Axes.{axis_at, hermite_at}
use Rattle.hermite.specs.Steps.{axis_table}

module _ (z z' g g' h h' : ℕ → Float) (n : ℕ) (ez : Agree z z' (n + n)) (eg : Agree g g' n) (eh : Agree h h' n) where
  difference_same : (k i : ℕ) → i + k < n + n → difference z g h k i ≡ difference z' g' h' k i
  unfolding difference
  difference_same zero i l = eg.same (i / 2) (omega arith)
  difference_same (suc zero) i l =
      rw (eh.same (i / 2) (omega arith), eg.same ((i + 1) / 2) (omega arith), eg.same (i / 2) (omega arith), ez.same (i + 1) l, ez.same i (omega arith))
  difference_same (suc (suc k)) i l =
      let later = difference_same (suc k) (i + 1) (omega arith) in
      let here = difference_same (suc k) i (omega arith) in
      rw (later, here, ez.same (i + suc (suc k)) l, ez.same i (omega arith))

  product_same : (x : Float) (k : ℕ) → k ≤ n + n → product z x k ≡ product z' x k
  unfolding product
  product_same x zero l = refl
  product_same x (suc k) l = let before = product_same x k (omega arith) in rw (before, ez.same k l)

  product'_same : (x : Float) (k : ℕ) → k ≤ n + n → product' z x k ≡ product' z' x k
  unfolding product'
  product'_same x zero l = refl
  product'_same x (suc k) l =
      let before = product'_same x k (omega arith) in
      rw (before, product_same x k (omega arith), ez.same k l)

  value_same : (x : Float) (k : ℕ) → k < n + n → value_to (λ j. difference z g h j 0) z x k ≡ value_to (λ j. difference z' g' h' j 0) z' x k
  unfolding value_to
  value_same x zero l = difference_same 0 0 (omega arith)
  value_same x (suc k) l =
      let before = value_same x k (omega arith) in
      rw (before, difference_same (suc k) 0 (omega arith), product_same x (suc k) (omega arith))

  slope_same : (x : Float) (k : ℕ) → k < n + n → slope_to (λ j. difference z g h j 0) z x k ≡ slope_to (λ j. difference z' g' h' j 0) z' x k
  unfolding slope_to
  slope_same x zero l = refl
  slope_same x (suc k) l =
      let before = slope_same x k (omega arith) in
      rw (before, difference_same (suc k) 0 (omega arith), product'_same x (suc k) (omega arith))

  pub table_same : (x : Float) → 1 ≤ n → table_of z g h n x ≡ table_of z' g' h' n x
  unfolding table_of
  table_same x p = rw (value_same x (n + n - 1) (omega arith), slope_same x (n + n - 1) (omega arith))

pub hermite_same : (f f' g g' h h' : ℕ → Float) (n : ℕ) (x : Float) → Agree f f' n → Agree g g' n → Agree h h' n → 1 ≤ n → hermite_of f g h n x ≡ hermite_of f' g' h' n x
unfolding hermite_of
hermite_same f f' g g' h h' n x ef eg eh p =
    table_same (doubled f) (doubled f') g g' h h' n (record { same = λ i l. ef.same (i / 2) (omega arith) }) eg eh x p

-- the table over doubled nodes that were read from the kernel is the kernel's axis
pub axis_from_kernel : (s : List ℕ) (e c : ℕ) (x : Float) (z : List Float) → Agree (at z) (doubled (every 8 s e)) (c + c) → 1 ≤ c
    → (b : ℕ) (r : Point) → r ≡ axis_table s b z c x → r ≡ axis_at s b e c x
unfolding hermite_of
axis_from_kernel s e c x z read p b r t =
    rw t
    (table_same (at z) (doubled (every 8 s e)) (every 48 s b) (every 48 s b) (every 48 s (b + 24)) (every 48 s (b + 24)) c read
    (record { same = λ j h. refl }) (record { same = λ j h. refl }) x p)
