-- Worked examples that antt computes: each is closed by `refl`, and every definition on the way is named on the `unfolding` line.
use Rattle.std.specs.Prelude.{ℕ, ◌+◌, ◌*◌, ◌≡◌, refl, Bool, true, false, List, [], ◌∷◌, map, ℤ, pos, Float}
use Rattle.std.specs.Float.{nan, inf, binary64}
use Rattle.std.specs.Float.Ieee.{add, sub, mul, neg, of_int, of_bits}
use Rattle.bits.specs.F64.{+0, whole}
use Rattle.frame.specs.State.{state_of, zero_state, negated_state, plus_state, minus_state, finite_state}
use Rattle.frame.specs.Frame.{Matrix, matrix, turned_state, transpose_of}
use Rattle.frame.specs.Given.{nothing_given, given_of, negated_given, plus_given, minus_given, turned_given}
use Rattle.frame.specs.declared.State.{State}
use Rattle.frame.specs.declared.Given.{Given}
use Rattle.frame.specs.Framed.{joined, turn_of}
use Rattle.frame.specs.declared.Framed.TheVariants.{Nothing, One, Mixed}
use Rattle.frame.specs.declared.Turn.TheVariants.{Stands, Forth, Back, Never}

-- A whole number below zero; -0 of 0.
abbrev pub minus : ℕ → Float
minus n = neg (whole n)

-- A state from its six numbers.
abbrev pub state : Float → Float → Float → Float → Float → Float → State
state a b c d e f = record { x = a; y = b; z = c; vx = d; vy = e; vz = f }

-- The state (1, 2, 3, 4, 5, 6).
abbrev pub counted : State
counted = state_of (λ k. whole (k + 1))

-- It in frame 1, stretched or not.
abbrev pub in_one : Bool → Given
in_one b = given_of counted (pos 1) b

-- The six numbers are -0.
abbrev pub minus_zeros : State
minus_zeros = state_of (λ k. minus 0)

-- The rows (0, 1, 0), (-1, 0, 0), (0, 0, 1).
abbrev pub quarter : Matrix
quarter = (whole 0 ∷ whole 1 ∷ whole 0 ∷ []) ∷ (minus 1 ∷ whole 0 ∷ whole 0 ∷ []) ∷ (whole 0 ∷ whole 0 ∷ whole 1 ∷ []) ∷ []

-- The rows (1, 0, 0), (0, 1, 0), (0, 0, 1).
abbrev pub unit : Matrix
unit = (whole 1 ∷ whole 0 ∷ whole 0 ∷ []) ∷ (whole 0 ∷ whole 1 ∷ whole 0 ∷ []) ∷ (whole 0 ∷ whole 0 ∷ whole 1 ∷ []) ∷ []

-- The rows (1, 2, 3), (4, 5, 6), (7, 8, 9).
abbrev pub nine : Matrix
nine = matrix 3 (λ i j. whole (3 * i + j + 1))

-- The quarter turn of (1, 2, 3, 4, 5, 6) from J2000 to ECLIPJ2000.
pub to_ecliptic : turned_state quarter counted ≡ state (whole 2) (minus 1) (whole 3) (whole 5) (minus 4) (whole 6)
unfolding add mul neg of_int
to_ecliptic = refl

-- And back, by the transpose.
pub from_ecliptic : turned_state (transpose_of quarter) (state (whole 2) (minus 1) (whole 3) (whole 5) (minus 4) (whole 6)) ≡ counted
unfolding add mul neg of_int
from_ecliptic = refl

-- The unit matrix leaves -0 as it is: a sum that started at +0 would give +0.
pub turned_zeros : turned_state unit minus_zeros ≡ minus_zeros
unfolding add mul neg of_int
turned_zeros = refl

-- The columns of (1, 2, 3), (4, 5, 6), (7, 8, 9).
pub columns : transpose_of nine ≡ matrix 3 (λ i j. whole (3 * j + i + 1))
columns = refl

-- Negating turns +0 to -0.
pub negated_zeros : negated_state zero_state ≡ minus_zeros
unfolding negated_state zero_state neg of_int of_bits
negated_zeros = refl

-- 0 - 0 is +0, so that subtracting from zero is not negating.
pub zero_less_zero : minus_state zero_state zero_state ≡ zero_state
unfolding minus_state zero_state sub of_bits
zero_less_zero = refl

-- A sum that starts at +0 loses the sign of -0.
pub zero_plus_minus_zero : plus_state zero_state minus_zeros ≡ zero_state
unfolding plus_state zero_state add neg of_int of_bits
zero_plus_minus_zero = refl

-- Zero is finite, the largest finite double too; a NaN or an infinity in any one place is not.
pub finites : map finite_state
    (zero_state ∷ state_of (λ k. of_bits binary64 0xffef_ffff_ffff_ffff) ∷ state nan +0 +0 +0 +0 +0 ∷ state +0 (inf true) +0 +0 +0 +0 ∷ state +0 +0 (inf false) +0 +0 +0
    ∷ state +0 +0 +0 nan +0 +0 ∷ state +0 +0 +0 +0 (inf true) +0 ∷ state +0 +0 +0 +0 +0 (inf false) ∷ [])
    ≡ true ∷ true ∷ false ∷ false ∷ false ∷ false ∷ false ∷ false ∷ []
unfolding finite_state zero_state of_bits
finites = refl

abbrev frames : List ℤ
frames = pos 1 ∷ pos 17 ∷ pos 13 ∷ []

-- Nothing joins as nothing; a frame with itself is itself, with another several; and several stay several.
pub joins :
    joined Nothing (One (pos 17)) ∷ joined (One (pos 17)) Nothing ∷ joined (One (pos 17)) (One (pos 17)) ∷ joined (One (pos 1)) (One (pos 17)) ∷ joined Mixed (One (pos 1)) ∷ joined (One (pos 1)) Mixed ∷ joined Mixed Nothing ∷ []
    ≡ One (pos 17) ∷ One (pos 17) ∷ One (pos 17) ∷ Mixed ∷ Mixed ∷ Mixed ∷ Mixed ∷ []
joins = refl

-- A state in 1, 17 and 13, asked in 1, 17 and 13; numbers of several frames, and of none.
pub turns :
    map (turn_of (One (pos 1))) frames ∷ map (turn_of (One (pos 17))) frames ∷ map (turn_of (One (pos 13))) frames ∷ map (turn_of Mixed) frames ∷ map (turn_of Nothing) frames ∷ []
    ≡ (Stands ∷ Forth ∷ Never ∷ []) ∷ (Back ∷ Stands ∷ Never ∷ []) ∷ (Never ∷ Never ∷ Stands ∷ []) ∷ (Never ∷ Never ∷ Never ∷ []) ∷ (Never ∷ Never ∷ Never ∷ []) ∷ []
turns = refl

-- Whether a record was stretched: nothing given says no; a sum and a difference say yes where one of the two does; the other sign and a matrix keep it.
pub words :
    map (λ (g : Given). g.stretched)
    (nothing_given ∷ plus_given (in_one true) (in_one false) ∷ plus_given (in_one false) (in_one true) ∷ minus_given (in_one true) (in_one false) ∷ minus_given (in_one false) (in_one true)
    ∷ minus_given (in_one false) (in_one false) ∷ negated_given (in_one true) ∷ turned_given unit (pos 17) (in_one true) ∷ [])
    ≡ false ∷ true ∷ true ∷ true ∷ true ∷ false ∷ true ∷ true ∷ []
words = refl
