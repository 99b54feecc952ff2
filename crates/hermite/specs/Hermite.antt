-- Hermite interpolation as the Rust has it, by divided differences of doubled nodes: f gives the nodes, g the values and h the slopes by their place.
use Rattle.std.specs.Prelude.{ℕ, zero, suc, ◌+◌, ◌-◌, ◌/◌, ◌%◌, cond, eqb, Float}
use Rattle.bits.specs.F64.{◌⊕◌, ◌⊖◌, ◌⊗◌, ◌⊘◌, +0, one}
use Rattle.hermite.specs.declared.Point.{Point}

-- Each number twice in a row.
abbrev pub doubled : (ℕ → Float) → ℕ → Float
doubled f i = f (i / 2)

-- The difference of order k at place i, from the column d of order k - 1, over the doubled nodes z.
abbrev pub quotient : (ℕ → Float) → (ℕ → Float) → ℕ → ℕ → Float
quotient d z k i = (d (i + 1) ⊖ d i) ⊘ (z (i + k) ⊖ z i)

-- The columns of the table: of order 0 the doubled values; of order 1 the slope within a doubled node and the quotient between two; then quotients.
unfoldable pub difference : (ℕ → Float) → (ℕ → Float) → (ℕ → Float) → ℕ → ℕ → Float
difference z g h zero i = doubled g i
difference z g h (suc zero) i = cond (eqb (i % 2) 0) (h (i / 2)) (quotient (doubled g) z 1 i)
difference z g h (suc (suc k)) i = quotient (λ j. difference z g h (suc k) j) z (suc (suc k)) i

-- (x - z 0) .. (x - z (k - 1)).
unfoldable pub product : (ℕ → Float) → Float → ℕ → Float
product z x zero = one
product z x (suc k) = (x ⊖ z k) ⊗ product z x k

-- Its derivative.
unfoldable pub product' : (ℕ → Float) → Float → ℕ → Float
unfolding product
product' z x zero = +0
product' z x (suc k) = product z x k ⊕ (x ⊖ z k) ⊗ product' z x k

-- The Newton form with coefficients c of order 0 to k.
unfoldable pub value_to : (ℕ → Float) → (ℕ → Float) → Float → ℕ → Float
unfolding product
value_to c z x zero = c zero
value_to c z x (suc k) = value_to c z x k ⊕ c (suc k) ⊗ product z x (suc k)

-- Its derivative, which starts at +0.
unfoldable pub slope_to : (ℕ → Float) → (ℕ → Float) → Float → ℕ → Float
unfolding product'
slope_to c z x zero = +0
slope_to c z x (suc k) = slope_to c z x k ⊕ c (suc k) ⊗ product' z x (suc k)

-- Over n doubled nodes z the coefficients have order 0 to 2n - 1, and each is the first number of its column.
unfoldable pub table_of : (ℕ → Float) → (ℕ → Float) → (ℕ → Float) → ℕ → Float → Point
unfolding difference value_to slope_to
table_of z g h n x =
    record { value = value_to (λ k. difference z g h k 0) z x (n + n - 1); slope = slope_to (λ k. difference z g h k 0) z x (n + n - 1) }

-- The value and the derivative at x of the polynomial through n nodes.
unfoldable pub hermite_of : (ℕ → Float) → (ℕ → Float) → (ℕ → Float) → ℕ → Float → Point
unfolding table_of
hermite_of f g h n x = table_of (doubled f) g h n x
