-- The lines of a text that is put together of lines are these. Assumes nothing.
--     OneLine      a text whose only newline is its end
--     in_front     .. and so is one with a text without newlines before it
--     lined        so the lines of n lines, put one after the other, are these
use mathlib.Core.Path.{◌≡◌, refl, sym, ap, ◌∙◌, subst}
use mathlib.Core.Bool.{Bool, true, false, cond, not, ◌&&◌}
use mathlib.Core.List.{List, [], ◌∷◌, ◌++◌, append-nil}
use Prim.Native.Nat.{ℕ, zero, suc, ◌+◌, ◌/◌, ◌%◌, ◌<◌}
use native.Mathlib.Omega.{arith}
use borrow.Author.Tests.{ne_eqb, not-true}
use lib.Dec.{ltb, eqb}
use lib.IntN.{ℤ, pos, negsuc}
use lib.Ieee.{Float, binary64, to_bits}
use lib.ListN.{length, get_or}
use Rattle.bits.proofs.Tests.{and_first, and_second}
use Rattle.io.specs.Digits.{hex_digit_ascii, last_digits}
use Rattle.frame.specs.declared.State.{State}
use Rattle.refusal.specs.declared.Refusal.{Refusal}
use Rattle.refusal.specs.Numbers.{number_of, detail_of}
use Rattle.lines.specs.Text.{space, newline, minus, decimal_in, decimal_text, signed_text, field_text, number_text, state_text, yes_text, tail_text, refused_word, refusal_text, numbered_refusal_text}
use Rattle.lines.specs.Lines.{before, text_lines, line_at, Lined}

-- no code of a text is a newline
pub data Plain : List ℕ → Type 0 where
  none : Plain []
  one : {t : List ℕ} (c : ℕ) → eqb c newline ≡ false → Plain t → Plain (c ∷ t)

pub plain_both : {a b : List ℕ} → Plain a → Plain b → Plain (a ++ b)
plain_both none q = q
plain_both (one c n p) q = one c n (plain_both p q)

-- .. as a test, for words
abbrev pub plainly : List ℕ → Bool
plainly [] = true
plainly (c ∷ cs) = not (eqb c newline) && plainly cs

pub word : (t : List ℕ) → plainly t ≡ true → Plain t
word [] e = none
word (c ∷ cs) e =
    one c (not-true (eqb c newline) (and_first (not (eqb c newline)) (plainly cs) e)) (word cs (and_second (not (eqb c newline)) (plainly cs) e))

-- a text whose only newline is its end: the lines of a text that begins with it are it and those of the rest
pub record OneLine (l : List ℕ) : Type 0 where
  pub first : (rest : List ℕ) → text_lines (l ++ rest) ≡ l ∷ text_lines rest

pub ended : OneLine (newline ∷ [])
unfolding text_lines
ended = record { first = λ rest. refl }

-- one code before a line
one_before : {l : List ℕ} (c : ℕ) → eqb c newline ≡ false → OneLine l → OneLine (c ∷ l)
unfolding text_lines
one_before {l} c n o = record {
  first = λ rest.
      ap (λ (b : Bool). cond b ((c ∷ []) ∷ text_lines (l ++ rest)) (before c (text_lines (l ++ rest)))) n ∙ ap (before c) (o.first rest);
}

pub in_front : {a l : List ℕ} → Plain a → OneLine l → OneLine (a ++ l)
in_front none o = o
in_front (one c n p) o = one_before c n (in_front p o)

-- ---- lines put one after the other
abbrev pub joined : List (List ℕ) → List ℕ
joined [] = []
joined (l ∷ ls) = l ++ joined ls

-- a text is its lines, put one after the other: no code is lost
pub whole : (text : List ℕ) → joined (text_lines text) ≡ text
unfolding text_lines
whole [] = refl
whole (c ∷ cs) = by (eqb c newline) ∙ ap (λ (t : List ℕ). c ∷ t) (whole cs)
  where
    first : (ls : List (List ℕ)) → joined (before c ls) ≡ c ∷ joined ls
    first [] = refl
    first (l ∷ ls) = refl

    by : (b : Bool) → joined (cond b ((c ∷ []) ∷ text_lines cs) (before c (text_lines cs))) ≡ c ∷ joined (text_lines cs)
    by true = refl
    by false = first (text_lines cs)

-- n lines that a rule gives for the numbers i, i + 1 .., put one after the other, are these
abbrev pub numbered : (ℕ → List ℕ) → ℕ → ℕ → List ℕ
numbered line i zero = []
numbered line i (suc n) = line i ++ numbered line (suc i) n

module _ (line : ℕ → List ℕ) (one_each : (k : ℕ) → OneLine (line k)) where
  many_numbered : (i n : ℕ) → length (text_lines (numbered line i n)) ≡ n
  unfolding text_lines
  many_numbered i zero = refl
  many_numbered i (suc n) = ap length ((one_each i).first (numbered line (suc i) n)) ∙ ap suc (many_numbered (suc i) n)

  at_numbered : (i n k : ℕ) → k < n → line_at (numbered line i n) k ≡ line (i + k)
  at_numbered i zero k h = absurd (omega arith)
  at_numbered i (suc n) zero h = ap (λ (ls : List (List ℕ)). get_or ls 0 []) ((one_each i).first (numbered line (suc i) n)) ∙ ap line (omega arith)
  at_numbered i (suc n) (suc k) h =
      ap (λ (ls : List (List ℕ)). get_or ls (suc k) []) ((one_each i).first (numbered line (suc i) n))
      ∙ at_numbered (suc i) n k (omega arith)
      ∙ ap line (omega arith)

  pub lined : (n : ℕ) → Lined (numbered line 0 n) n line
  lined n = record { many = many_numbered 0 n; each = λ i h. at_numbered 0 n i h ∙ ap line (omega arith) }

-- one line alone
pub alone : {l : List ℕ} → OneLine l → text_lines l ≡ l ∷ []
unfolding text_lines
alone {l} o = ap text_lines (sym (append-nil l)) ∙ o.first []

pub lined_alone : {l : List ℕ} → OneLine l → Lined l 1 (λ i. l)
lined_alone {l} o = subst (λ (t : List ℕ). Lined t 1 (λ i. l)) (append-nil l) (lined (λ i. l) (λ k. o) 1)

-- ---- the parts of the programs' lines have no newline
glyph_plain : (d : ℕ) → Plain (hex_digit_ascii d ∷ [])
glyph_plain d = one (hex_digit_ascii d) (by (ltb d 10)) none
  where
    by : (b : Bool) → eqb (cond b (48 + d) (87 + d)) newline ≡ false
    by true = ne_eqb (48 + d) newline (λ e. omega arith)
    by false = ne_eqb (87 + d) newline (λ e. omega arith)

digits_plain : (b k n : ℕ) → Plain (last_digits b k n)
digits_plain b zero n = none
digits_plain b (suc k) n = plain_both (digits_plain b k (n / b)) (glyph_plain (n % b))

decimal_in_plain : (k n : ℕ) → Plain (decimal_in k n)
unfolding decimal_in
decimal_in_plain zero n = none
decimal_in_plain (suc k) n = by (ltb n 10) (decimal_in_plain k (n / 10))
  where
    by : (b : Bool) → Plain (decimal_in k (n / 10)) → Plain (cond b (hex_digit_ascii n ∷ []) (decimal_in k (n / 10) ++ (hex_digit_ascii (n % 10) ∷ [])))
    by true p = glyph_plain n
    by false p = plain_both p (glyph_plain (n % 10))

pub decimal_plain : (n : ℕ) → Plain (decimal_text n)
unfolding decimal_text
decimal_plain n = decimal_in_plain 20 n

pub signed_plain : (z : ℤ) → Plain (signed_text z)
unfolding signed_text
signed_plain (pos n) = decimal_plain n
signed_plain (negsuc n) = one minus refl (decimal_plain (suc n))

pub field_plain : (z : ℤ) → Plain (field_text z)
unfolding field_text
field_plain z = one space refl (signed_plain z)

pub number_plain : (x : Float) → Plain (number_text x)
unfolding number_text
number_plain x = one space refl (digits_plain 16 16 (to_bits binary64 x))

pub state_plain : (s : State) → Plain (state_text s)
unfolding state_text
state_plain s =
    plain_both (number_plain s.x)
    (plain_both (number_plain s.y)
    (plain_both (number_plain s.z)
    (plain_both (number_plain s.vx)
    (plain_both (number_plain s.vy) (number_plain s.vz)))))

pub yes_plain : (b : Bool) → Plain (yes_text b)
unfolding yes_text
yes_plain true = word (space ∷ 121 ∷ 101 ∷ 115 ∷ []) refl
yes_plain false = word (space ∷ 110 ∷ 111 ∷ []) refl

-- ---- and so each is one line
pub tail_line : (b : Bool) (s : State) → OneLine (tail_text b s)
unfolding tail_text
tail_line b s = in_front (yes_plain b) (in_front (state_plain s) ended)

pub refusal_line : (r : Refusal) → OneLine (refusal_text r)
unfolding refusal_text
refusal_line r =
    in_front (word refused_word refl)
    (in_front (decimal_plain (number_of r))
    (in_front (word (space ∷ []) refl) (in_front (signed_plain (detail_of r)) ended)))

pub numbered_refusal_line : (i : ℕ) (r : Refusal) → OneLine (numbered_refusal_text i r)
unfolding numbered_refusal_text
numbered_refusal_line i r = in_front (decimal_plain i) (in_front (word (space ∷ []) refl) (refusal_line r))
