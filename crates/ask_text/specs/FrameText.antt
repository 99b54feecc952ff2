-- The argument FRAME of `ask`, a list of ASCII codes, and the number that it is: RULES, "Programs".
use Rattle.std.specs.Prelude.{ℕ, ◌+◌, ◌-◌, ◌*◌, Bool, true, false, cond, not, ◌&&◌, Option, Some, None, unwrap_or, List, [], ◌∷◌, eqb, ltb, ℤ, pos, neg_ℤ}
use Rattle.std.specs.Char.{is_ascii_digit}
use Rattle.frame.specs.Framed.{eclip_j2000}

-- Every code is a digit's, `0` to `9`.
unfoldable pub all_digits : List ℕ → Bool
all_digits [] = true
all_digits (c ∷ rest) = is_ascii_digit c && all_digits rest

-- At least one code, and every one a digit's.
unfoldable pub is_numeral : List ℕ → Bool
is_numeral [] = false
is_numeral (c ∷ rest) = all_digits (c ∷ rest)

-- The number that digits stand for after the number v: each is added to ten times what stands before it.
unfoldable pub value_after : ℕ → List ℕ → ℕ
value_after v [] = v
value_after v (c ∷ rest) = value_after (10 * v + (c - 48)) rest

-- The largest number without its sign that 32 bits hold: that of -2147483648.
abbrev pub largest : ℕ
largest = 2147483648

-- The number of a run of digits, where it is at most that.
unfoldable pub digits_in : List ℕ → Option ℕ
digits_in text = cond (is_numeral text && not (ltb largest (value_after 0 text))) (Some (value_after 0 text)) None

-- Without a sign, 2147483647 is the largest.
unfoldable pub above : Option ℕ → Option ℤ
above (Some v) = cond (ltb v largest) (Some (pos v)) None
above None = None

-- After a minus sign.
unfoldable pub below : Option ℕ → Option ℤ
below (Some v) = Some (neg_ℤ (pos v))
below None = None

abbrev pub minus : ℕ
minus = 45

-- What FRAME says: digits, with a minus sign before the first or none. Any other text is no number.
unfoldable pub frame_named : List ℕ → Option ℤ
frame_named [] = None
frame_named (c ∷ rest) = cond (eqb c minus) (below (digits_in rest)) (above (digits_in (c ∷ rest)))

-- The number that it is; 17 in the place of none.
abbrev pub frame_number : Option ℤ → ℤ
frame_number f = unwrap_or f eclip_j2000
