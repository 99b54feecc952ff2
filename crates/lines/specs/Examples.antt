-- Worked examples, closed by computation.
use Rattle.std.specs.Prelude.{◌≡◌, refl, false, true, [], ◌∷◌, map, pos, negsuc}
use Rattle.std.specs.Float.{fin}
use Rattle.std.specs.Float.Ieee.{to_bits}
use Rattle.refusal.specs.declared.Refusal.TheVariants.{EpochNan, NoCoverage}
use Rattle.lines.specs.Text.{decimal_text, signed_text, number_text, yes_text, refusal_text, numbered_refusal_text}
use Rattle.lines.specs.Lines.{text_lines}

-- 0, 10 and the largest number of 64 bits: 18446744073709551615.
pub decimals : map decimal_text (0 ∷ 10 ∷ 0xffff_ffff_ffff_ffff ∷ []) ≡
    (48 ∷ []) ∷ (49 ∷ 48 ∷ []) ∷ (49 ∷ 56 ∷ 52 ∷ 52 ∷ 54 ∷ 55 ∷ 52 ∷ 52 ∷ 48 ∷ 55 ∷ 51 ∷ 55 ∷ 48 ∷ 57 ∷ 53 ∷ 53 ∷ 49 ∷ 54 ∷ 49 ∷ 53 ∷ []) ∷ []
unfolding decimal_text
decimals = refl

-- -1 and 399.
pub signs : map signed_text (negsuc 0 ∷ pos 399 ∷ []) ≡ (45 ∷ 49 ∷ []) ∷ (51 ∷ 57 ∷ 57 ∷ []) ∷ []
unfolding signed_text
signs = refl

-- The 10.0 of RULES, "Worked numbers", which is 5 * 2 ^ 1: 4024000000000000. And -0: 8000000000000000.
pub tens : number_text (fin false 5 (pos 1)) ≡ 32 ∷ 52 ∷ 48 ∷ 50 ∷ 52 ∷ 48 ∷ 48 ∷ 48 ∷ 48 ∷ 48 ∷ 48 ∷ 48 ∷ 48 ∷ 48 ∷ 48 ∷ 48 ∷ 48 ∷ []
unfolding number_text to_bits
tens = refl

pub zeros : number_text (fin true 0 (pos 0)) ≡ 32 ∷ 56 ∷ 48 ∷ 48 ∷ 48 ∷ 48 ∷ 48 ∷ 48 ∷ 48 ∷ 48 ∷ 48 ∷ 48 ∷ 48 ∷ 48 ∷ 48 ∷ 48 ∷ 48 ∷ []
unfolding number_text to_bits
zeros = refl

-- `yes` and `no`, each after a space.
pub words : map yes_text (true ∷ false ∷ []) ≡ (32 ∷ 121 ∷ 101 ∷ 115 ∷ []) ∷ (32 ∷ 110 ∷ 111 ∷ []) ∷ []
unfolding yes_text
words = refl

-- `refused 11 -5` and a newline.
pub refused : refusal_text (NoCoverage (negsuc 4)) ≡ 114 ∷ 101 ∷ 102 ∷ 117 ∷ 115 ∷ 101 ∷ 100 ∷ 32 ∷ 49 ∷ 49 ∷ 32 ∷ 45 ∷ 53 ∷ 10 ∷ []
unfolding refusal_text
refused = refl

-- `7 refused 10 0` and a newline: question 7 with the epoch NaN.
pub numbered : numbered_refusal_text 7 EpochNan ≡ 55 ∷ 32 ∷ 114 ∷ 101 ∷ 102 ∷ 117 ∷ 115 ∷ 101 ∷ 100 ∷ 32 ∷ 49 ∷ 48 ∷ 32 ∷ 48 ∷ 10 ∷ []
unfolding numbered_refusal_text
numbered = refl

-- `7`, an empty line and `8 9`, each with a newline; then the same with no newline at the end.
pub three : text_lines (55 ∷ 10 ∷ 10 ∷ 56 ∷ 32 ∷ 57 ∷ 10 ∷ []) ≡ (55 ∷ 10 ∷ []) ∷ (10 ∷ []) ∷ (56 ∷ 32 ∷ 57 ∷ 10 ∷ []) ∷ []
unfolding text_lines
three = refl

pub unended : text_lines (55 ∷ 10 ∷ 10 ∷ 56 ∷ 32 ∷ 57 ∷ []) ≡ (55 ∷ 10 ∷ []) ∷ (10 ∷ []) ∷ (56 ∷ 32 ∷ 57 ∷ []) ∷ []
unfolding text_lines
unended = refl
