-- Worked examples, closed by computation.
use Rattle.std.specs.Prelude.{◌≡◌, refl, Some, None, [], ◌∷◌, map, pos, negsuc}
use Rattle.ask_text.specs.FrameText.{all_digits, is_numeral, value_after, digits_in, above, below, frame_named}

-- `17`, `-5`, `013` and `-0`.
pub numbers : map frame_named ((49 ∷ 55 ∷ []) ∷ (45 ∷ 53 ∷ []) ∷ (48 ∷ 49 ∷ 51 ∷ []) ∷ (45 ∷ 48 ∷ []) ∷ []) ≡
    Some (pos 17) ∷ Some (negsuc 4) ∷ Some (pos 13) ∷ Some (pos 0) ∷ []
unfolding all_digits is_numeral value_after digits_in above below frame_named
numbers = refl

-- `-2147483648`, `2147483647`, and one over each.
pub ends : map frame_named (
    (45 ∷ 50 ∷ 49 ∷ 52 ∷ 55 ∷ 52 ∷ 56 ∷ 51 ∷ 54 ∷ 52 ∷ 56 ∷ []) ∷ (50 ∷ 49 ∷ 52 ∷ 55 ∷ 52 ∷ 56 ∷ 51 ∷ 54 ∷ 52 ∷ 55 ∷ [])
    ∷ (45 ∷ 50 ∷ 49 ∷ 52 ∷ 55 ∷ 52 ∷ 56 ∷ 51 ∷ 54 ∷ 52 ∷ 57 ∷ []) ∷ (50 ∷ 49 ∷ 52 ∷ 55 ∷ 52 ∷ 56 ∷ 51 ∷ 54 ∷ 52 ∷ 56 ∷ []) ∷ [])
    ≡ Some (negsuc 2147483647) ∷ Some (pos 2147483647) ∷ None ∷ None ∷ []
unfolding all_digits is_numeral value_after digits_in above below frame_named
ends = refl

-- Nothing, a minus sign alone, two of them before a digit, `+5`, `5` and a space, `1x`.
pub none : map frame_named ([] ∷ (45 ∷ []) ∷ (45 ∷ 45 ∷ 53 ∷ []) ∷ (43 ∷ 53 ∷ []) ∷ (53 ∷ 32 ∷ []) ∷ (49 ∷ 120 ∷ []) ∷ []) ≡
    None ∷ None ∷ None ∷ None ∷ None ∷ None ∷ []
unfolding all_digits is_numeral value_after digits_in above below frame_named
none = refl
