-- The argument FRAME as the code reads it, digit by digit. Assumes nothing.
use Prim.Native.Nat.{ℕ, zero, suc, ◌+◌, ◌-◌, ◌*◌, ◌≤◌, ◌<◌}
use mathlib.Core.Path.{◌≡◌, refl, sym, ap, ◌∙◌, subst}
use mathlib.Core.Bool.{Bool, true, false, cond, not, ◌&&◌}
use mathlib.Core.List.{List, [], ◌∷◌}
use native.Mathlib.Numerals.{add-one}
use native.Mathlib.Nat.{le_trans, le_of_eq}
use native.Mathlib.Omega.{arith}
use lib.IntN.{ℤ, pos, negsuc, neg_ℤ}
use mir.Syntax.{w32}
use lib.ListN.{length, get_or, take, drop, length-drop, drop_of_length-le}
use lib.Seq.{drop-cons, take_all}
use borrow.Author.Tests.{eq-eqb, ne_eqb, lt-ltb, le-ltb, ltb-false, not-true}
use Rattle.std.specs.Prelude.{Option, Some, None, SomeIff, FitsSigned, ◌-ℤ◌}
use Rattle.std.specs.Char.{is_ascii_digit}
use Rattle.bits.proofs.Tests.{and_no, and_both, and_second}
use Rattle.ask_text.specs.FrameText.{all_digits, is_numeral, value_after, largest, digits_in, above, below, minus, frame_named}

-- ---- the definitions, one code at a time
all_next : (text : List ℕ) (i : ℕ) → i < length text → all_digits (drop i text) ≡ is_ascii_digit (get_or text i 0) && all_digits (drop (i + 1) text)
unfolding all_digits
all_next text i h =
    ap all_digits (drop-cons text i 0 h) ∙ ap (λ (k : ℕ). is_ascii_digit (get_or text i 0) && all_digits (drop k text)) (sym (add-one i))

value_next : (text : List ℕ) (i v : ℕ) → i < length text → value_after v (drop i text) ≡ value_after (10 * v + (get_or text i 0 - 48)) (drop (i + 1) text)
unfolding value_after
value_next text i v h =
    ap (value_after v) (drop-cons text i 0 h) ∙ ap (λ (k : ℕ). value_after (10 * v + (get_or text i 0 - 48)) (drop k text)) (sym (add-one i))

-- no digit makes the number smaller
grows : (v : ℕ) (text : List ℕ) → v ≤ value_after v text
unfolding value_after
grows v [] = omega arith
grows v (c ∷ rest) = le_trans (omega arith) (grows (10 * v + (c - 48)) rest)

not_all : (text : List ℕ) → all_digits text ≡ false → is_numeral text ≡ false
unfolding all_digits is_numeral
not_all [] e = refl
not_all (c ∷ rest) e = e

some_all : (text : List ℕ) → 0 < length text → all_digits text ≡ true → is_numeral text ≡ true
unfolding is_numeral
some_all [] h e = absurd (omega arith)
some_all (c ∷ rest) h e = e

-- ---- the number of a run of digits, by its two tests
module _ (text : List ℕ) where
  abbrev made : Bool → Option ℕ
  made b = cond b (Some (value_after 0 text)) None

  no_numeral : is_numeral text ≡ false → digits_in text ≡ None
  unfolding digits_in
  no_numeral e = ap made (sym (and_no (is_numeral text) _ e) ∙ e)

  too_large : largest < value_after 0 text → digits_in text ≡ None
  unfolding digits_in
  too_large h = ap made (second (is_numeral text) _ (ap not (lt-ltb largest (value_after 0 text) h)))
    where
      second : (a b : Bool) → b ≡ false → (a && b) ≡ false
      second true b e = e
      second false b e = refl

  its_value : is_numeral text ≡ true → value_after 0 text ≤ largest → digits_in text ≡ Some (value_after 0 text)
  unfolding digits_in
  its_value e h = ap made (and_both (is_numeral text) _ e (ap not (le-ltb largest (value_after 0 text) h)))

  empty_none : length text ≡ 0 → digits_in text ≡ None
  unfolding is_numeral
  empty_none h = no_numeral (none text h)
    where
      none : (t : List ℕ) → length t ≡ 0 → is_numeral t ≡ false
      none [] h = refl
      none (c ∷ rest) h = absurd (omega arith)

-- ---- the first i codes have been read: they are digits, and v is their number
pub record Reading (text : List ℕ) (i v : ℕ) : Type 0 where
  pub within : i ≤ length text
  pub small : v ≤ largest
  pub digits : all_digits text ≡ all_digits (drop i text)
  pub value : value_after 0 text ≡ value_after v (drop i text)

pub reading_none : (text : List ℕ) → Reading text 0 0
reading_none text = record { within = omega arith; small = omega arith; digits = refl; value = refl }

module _ (text : List ℕ) (i v : ℕ) (r : Reading text i v) where
  abbrev after : ℕ
  after = 10 * v + (get_or text i 0 - 48)

  module _ (more : i < length text) where
    pub no_digit : is_ascii_digit (get_or text i 0) ≡ false → digits_in text ≡ None
    no_digit e = no_numeral text (not_all text (r.digits ∙ all_next text i more ∙ (sym (and_no _ _ e) ∙ e)))

    pub over : largest < after → digits_in text ≡ None
    over h = let g = grows after (drop (i + 1) text) in let e = r.value ∙ value_next text i v more in too_large text (omega arith)

    pub reading_next : is_ascii_digit (get_or text i 0) ≡ true → after ≤ largest → Reading text (i + 1) after
    reading_next e h = record {
      within = omega arith;
      small = h;
      digits = r.digits ∙ all_next text i more ∙ ap (λ (b : Bool). b && all_digits (drop (i + 1) text)) e;
      value = r.value ∙ value_next text i v more;
    }

  module _ (ended : length text ≤ i) where
    none_left : drop i text ≡ []
    none_left = drop_of_length-le text ended

    pub none_read : i ≡ 0 → digits_in text ≡ None
    none_read h = empty_none text (omega arith)

    pub all_read : 0 < i → digits_in text ≡ Some v
    unfolding all_digits value_after
    all_read h =
        let e = r.value ∙ ap (value_after v) none_left in let s = r.small in let w = r.within in
        its_value text (some_all text (omega arith) (r.digits ∙ ap all_digits none_left)) (omega arith) ∙ ap Some e

-- ---- its sign
unfoldable Small : Option ℕ → Type 0
Small (Some v) = v ≤ largest
Small None = Unit {0}

pub digits_small : (text : List ℕ) (v : ℕ) → digits_in text ≡ Some v → v ≤ largest
unfolding digits_in Small
digits_small text v e = subst Small e (small _ (λ t. ltb-false largest (value_after 0 text) (not-true _ (and_second (is_numeral text) _ t))))
  where
    small : (b : Bool) → (b ≡ true → value_after 0 text ≤ largest) → Small (cond b (Some (value_after 0 text)) None)
    small true h = h refl
    small false h = tt

-- what is made of the digits, by what they were found to be
module _ (text : List ℕ) (d : Option ℕ) (found : d ≡ digits_in text) where
  pub above_value : (v : ℕ) → d ≡ Some v → v < largest → above (digits_in text) ≡ Some (pos v)
  unfolding above
  above_value v e h = ap above (sym found ∙ e) ∙ ap (λ (b : Bool). cond b (Some (pos v)) None) (lt-ltb v largest h)

  pub above_large : (v : ℕ) → d ≡ Some v → largest ≤ v → above (digits_in text) ≡ None
  unfolding above
  above_large v e h = ap above (sym found ∙ e) ∙ ap (λ (b : Bool). cond b (Some (pos v)) None) (le-ltb v largest h)

  pub above_none : d ≡ None → above (digits_in text) ≡ None
  unfolding above
  above_none e = ap above (sym found ∙ e)

  pub below_value : (v : ℕ) → d ≡ Some v → below (digits_in text) ≡ Some (neg_ℤ (pos v))
  unfolding below
  below_value v e = ap below (sym found ∙ e)

  pub below_none : d ≡ None → below (digits_in text) ≡ None
  unfolding below
  below_none e = ap below (sym found ∙ e)

-- what the argument is, by its first code
pub frame_minus : (text : List ℕ) → (length text ≡ 0 → ⊥) → get_or text 0 0 ≡ minus → frame_named text ≡ below (digits_in (drop 1 text))
unfolding frame_named
frame_minus [] h e = absurd (h refl)
frame_minus (c ∷ rest) h e = ap (λ (b : Bool). cond b (below (digits_in rest)) (above (digits_in (c ∷ rest)))) (eq-eqb c minus e)

-- where it is empty it is digits without a sign too, which are none
pub frame_unsigned : (text : List ℕ) → ((length text ≡ 0 → ⊥) → get_or text 0 0 ≡ minus → ⊥) → frame_named text ≡ above (digits_in text)
unfolding frame_named above digits_in is_numeral
frame_unsigned [] h = refl
frame_unsigned (c ∷ rest) h = ap (λ (b : Bool). cond b (below (digits_in rest)) (above (digits_in (c ∷ rest)))) (ne_eqb c minus (h (λ e. omega arith)))

-- all but the first code
pub rest_whole : (text : List ℕ) → take (length text - 1) (drop 1 text) ≡ drop 1 text
rest_whole text = take_all (length text - 1) (drop 1 text) (le_of_eq (length-drop 1 text))

-- what is taken from 0 is the negative
from_zero : (n : ℕ) → (pos 0 -ℤ pos n) ≡ neg_ℤ (pos n)
from_zero zero = refl
from_zero (suc n) = ap (λ (b : Bool). cond b (negsuc (suc n - 1)) (pos (0 - suc n))) (lt-ltb 0 (suc n) (omega arith)) ∙ ap negsuc (back n)
  where
    back : (k : ℕ) → suc k - 1 ≡ k
    back k = omega arith

fits : (n : ℕ) → n ≤ largest → FitsSigned w32 (neg_ℤ (pos n))
fits zero h = record { sfits = omega arith }
fits (suc n) h = let below : n < 2147483648 = omega arith in record { sfits = below }

pub negated : (v : ℕ) (r : Option ℤ) → v ≤ largest → SomeIff r (FitsSigned w32 (pos 0 -ℤ pos v)) (pos 0 -ℤ pos v) → r ≡ Some (neg_ℤ (pos v))
negated v (Some x) h s = ap Some (s.1 ∙ from_zero v)
negated v None h s = absurd (s (subst (FitsSigned w32) (sym (from_zero v)) (fits v h)))
