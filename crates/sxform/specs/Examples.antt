-- Worked examples that antt computes: each is closed by `refl`, and every definition on the way is named on the `unfolding` line.
use Rattle.std.specs.Prelude.{◌+◌, ◌*◌, ◌≡◌, refl, [], ◌∷◌}
use Rattle.std.specs.Float.Ieee.{add, mul, neg, of_int, of_bits}
use Rattle.bits.specs.F64.{+0, whole}
use Rattle.frame.specs.State.{zero_state}
use Rattle.frame.specs.Frame.{matrix}
use Rattle.frame.specs.Examples.{minus, state, counted, minus_zeros, quarter, unit, nine}
use Rattle.sxform.specs.Sxform.{product_of, sum_of, sxform_of, inverse_of, applied_state}

-- In `matmul3` the +0 shows: the unit matrix times a matrix of -0 is one of +0.
pub product_zeros : product_of unit (matrix 3 (λ i j. minus 0)) ≡ matrix 3 (λ i j. +0)
unfolding add mul neg of_int of_bits
product_zeros = refl

-- So it does in `apply_sxform`, where the rotation keeps -0.
pub applied_zeros : applied_state (sxform_of unit unit) minus_zeros ≡ zero_state
unfolding zero_state add mul neg of_int of_bits
applied_zeros = refl

-- A product: the quarter turn done twice.
pub half_turn : product_of quarter quarter ≡ (minus 1 ∷ +0 ∷ +0 ∷ []) ∷ (+0 ∷ minus 1 ∷ +0 ∷ []) ∷ (+0 ∷ +0 ∷ whole 1 ∷ []) ∷ []
unfolding add mul neg of_int of_bits
half_turn = refl

-- A sum of matrices.
pub doubled : sum_of nine nine ≡ matrix 3 (λ i j. whole (2 * (3 * i + j + 1)))
unfolding add of_int
doubled = refl

-- A state matrix with derivative (1, 2, 3), (4, 5, 6), (7, 8, 9) adds its rows times the position to the velocity.
pub moved : applied_state (sxform_of unit nine) counted ≡ state (whole 1) (whole 2) (whole 3) (whole 18) (whole 37) (whole 56)
unfolding add mul of_int of_bits
moved = refl

-- The same of the inverse: the columns (1, 4, 7), (2, 5, 8), (3, 6, 9) times the position.
pub moved_back : applied_state (inverse_of (sxform_of unit nine)) counted ≡ state (whole 1) (whole 2) (whole 3) (whole 34) (whole 41) (whole 48)
unfolding add mul of_int of_bits
moved_back = refl
