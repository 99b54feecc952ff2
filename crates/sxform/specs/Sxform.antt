-- Sums and products of 3 by 3 matrices, the 6 by 6 matrices made of them, and what those do to a state.
use Rattle.std.specs.Prelude.{ℕ, ◌+◌, ◌-◌, cond, ltb, Float}
use Rattle.bits.specs.F64.{◌⊕◌, ◌⊗◌, +0, sum_from0}
use Rattle.frame.specs.State.{number, state_of}
use Rattle.frame.specs.Frame.{Matrix, matrix, cell}
use Rattle.frame.specs.declared.State.{State}

-- The product of two 3 by 3 matrices: unlike the rotation's, each sum starts at +0.
abbrev pub product_of : Matrix → Matrix → Matrix
product_of a b = matrix 3 (λ i j. sum_from0 (λ k. cell a i k ⊗ cell b k j) 3)

-- The sum of two 3 by 3 matrices.
abbrev pub sum_of : Matrix → Matrix → Matrix
sum_of a b = matrix 3 (λ i j. cell a i j ⊕ cell b i j)

-- The 6 by 6 matrix of four blocks, a and b above c and d, each by a rule over its own rows and columns.
abbrev pub blocks : (ℕ → ℕ → Float) → (ℕ → ℕ → Float) → (ℕ → ℕ → Float) → (ℕ → ℕ → Float) → Matrix
blocks a b c d = matrix 6 (λ i j. cond (ltb i 3) (cond (ltb j 3) (a i j) (b i (j - 3))) (cond (ltb j 3) (c (i - 3) j) (d (i - 3) (j - 3))))

-- The state matrix of a rotation r and its derivative dr: blocks [r, 0], [dr, r].
abbrev pub sxform_of : Matrix → Matrix → Matrix
sxform_of r dr = blocks (cell r) (λ i j. +0) (cell dr) (cell r)

-- Its inverse: each block of m transposed where it stands, and +0 in the upper right one.
abbrev pub inverse_of : Matrix → Matrix
inverse_of m = blocks (λ i j. cell m j i) (λ i j. +0) (λ i j. cell m (j + 3) i) (λ i j. cell m (j + 3) (i + 3))

-- A 6 by 6 matrix times a state: each sum starts at +0.
abbrev pub applied_state : Matrix → State → State
applied_state m s = state_of (λ i. sum_from0 (λ j. cell m i j ⊗ number s j) 6)
