-- Matrices, given row by row as lists of rows, and what those of 3 by 3 do to a state.
-- Each matrix is said by one rule for the number in row i and column j. At the sizes 3 and 6 antt writes the rule out by computation.
use Rattle.std.specs.Prelude.{ℕ, zero, suc, ◌+◌, ◌-◌, cond, List, [], ◌∷◌, ltb, get_or, Float}
use Rattle.bits.specs.F64.{◌⊗◌, at, sum_to}
use Rattle.frame.specs.State.{number, state_of}
use Rattle.frame.specs.declared.State.{State}

-- A matrix, row by row.
abbrev pub Matrix : Type 0
Matrix = List (List Float)

-- f 0, f 1, .. f (n - 1).
abbrev pub table {ℓ} : {A : Type ℓ} → ℕ → (ℕ → A) → List A
table zero f = []
table (suc n) f = f zero ∷ table n (λ k. f (suc k))

-- The n by n matrix with f i j in row i and column j.
abbrev pub matrix : ℕ → (ℕ → ℕ → Float) → Matrix
matrix n f = table n (λ i. table n (f i))

-- What stands in row i and column j.
abbrev pub cell : Matrix → ℕ → ℕ → Float
cell m i j = at (get_or m i []) j

-- Row i of a 3 by 3 matrix times the vector v: the sum starts with its first product.
abbrev pub turned : Matrix → (ℕ → Float) → ℕ → Float
turned m v i = sum_to (λ j. cell m i j ⊗ v j) 2

-- A state turned by a 3 by 3 matrix: the position, numbers 0 to 2, and the velocity, numbers 3 to 5, alike.
abbrev pub turned_state : Matrix → State → State
turned_state m s = state_of (λ k. cond (ltb k 3) (turned m (number s) k) (turned m (λ j. number s (j + 3)) (k - 3)))

-- Row i is column i.
abbrev pub transpose_of : Matrix → Matrix
transpose_of m = matrix 3 (λ i j. cell m j i)
