-- The parts of the programs' lines, as lists of ASCII codes.
use Rattle.std.specs.Prelude.{ℕ, zero, suc, ◌/◌, ◌%◌, Bool, true, false, cond, List, [], ◌∷◌, ◌++◌, ltb, ℤ, pos, negsuc, Float}
use Rattle.std.specs.Float.{binary64}
use Rattle.std.specs.Float.Ieee.{to_bits}
use Rattle.io.specs.Digits.{hex_digit_ascii, last_digits}
use Rattle.frame.specs.declared.State.{State}
use Rattle.refusal.specs.declared.Refusal.{Refusal}
use Rattle.refusal.specs.Numbers.{number_of, detail_of}

abbrev pub space : ℕ
space = 32

abbrev pub newline : ℕ
newline = 10

abbrev pub minus : ℕ
minus = 45

-- A number in decimal, in at most so many digits: one below 10 is its digit; any other is the digits of its tenth part, then the last.
unfoldable pub decimal_in : ℕ → ℕ → List ℕ
decimal_in zero n = []
decimal_in (suc k) n = cond (ltb n 10) (hex_digit_ascii n ∷ []) (decimal_in k (n / 10) ++ (hex_digit_ascii (n % 10) ∷ []))

-- A number in decimal: 20 digits hold every number of 64 bits.
unfoldable pub decimal_text : ℕ → List ℕ
unfolding decimal_in
decimal_text n = decimal_in 20 n

-- A signed number in decimal.
unfoldable pub signed_text : ℤ → List ℕ
unfolding decimal_text
signed_text (pos n) = decimal_text n
signed_text (negsuc n) = minus ∷ decimal_text (suc n)

-- A signed number after a space.
unfoldable pub field_text : ℤ → List ℕ
field_text z = (space ∷ []) ++ signed_text z

-- The bits of a double in 16 lower-case hexadecimal digits, after a space.
unfoldable pub number_text : Float → List ℕ
number_text x = space ∷ last_digits 16 16 (to_bits binary64 x)

-- The six numbers of a state, each after a space.
unfoldable pub state_text : State → List ℕ
unfolding number_text
state_text s = number_text s.x ++ (number_text s.y ++ (number_text s.z ++ (number_text s.vx ++ (number_text s.vy ++ number_text s.vz))))

-- `yes` or `no`, after a space.
unfoldable pub yes_text : Bool → List ℕ
yes_text true = space ∷ 121 ∷ 101 ∷ 115 ∷ []
yes_text false = space ∷ 110 ∷ 111 ∷ []

-- The end of an answer's line: whether a record was stretched, its six numbers and the newline.
unfoldable pub tail_text : Bool → State → List ℕ
tail_text b s = yes_text b ++ (state_text s ++ (newline ∷ []))

-- `refused` and a space.
abbrev pub refused_word : List ℕ
refused_word = 114 ∷ 101 ∷ 102 ∷ 117 ∷ 115 ∷ 101 ∷ 100 ∷ space ∷ []

-- The line of a refusal: `refused`, its number, its detail.
unfoldable pub refusal_text : Refusal → List ℕ
unfolding decimal_text signed_text
refusal_text r = refused_word ++ (decimal_text (number_of r) ++ ((space ∷ []) ++ (signed_text (detail_of r) ++ (newline ∷ []))))

-- The line of a refused question: its number, then that line. The line of a refused run has no number before it.
unfoldable pub numbered_refusal_text : ℕ → Refusal → List ℕ
unfolding decimal_text refusal_text
numbered_refusal_text i r = decimal_text i ++ ((space ∷ []) ++ refusal_text r)
