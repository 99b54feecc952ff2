-- The lines of a text, as whoever reads it divides it: at the newlines.
use Rattle.std.specs.Prelude.{ℕ, ◌<◌, ◌≡◌, cond, List, [], ◌∷◌, eqb, length, get_or}
use Rattle.lines.specs.Text.{newline}

-- A code before the first of some lines; where there is none, a line of its own.
abbrev pub before : ℕ → List (List ℕ) → List (List ℕ)
before c [] = (c ∷ []) ∷ []
before c (l ∷ ls) = (c ∷ l) ∷ ls

-- The lines of a text: each ends with its newline, and the next begins after it. A last line without one counts too.
unfoldable pub text_lines : List ℕ → List (List ℕ)
text_lines [] = []
text_lines (c ∷ cs) = let rest = text_lines cs in cond (eqb c newline) ((c ∷ []) ∷ rest) (before c rest)

-- Line i of a text, from 0 on, with its newline.
abbrev pub line_at : List ℕ → ℕ → List ℕ
line_at text i = get_or (text_lines text) i []

-- A text has n lines, and line i is `line i`.
pub record Lined (text : List ℕ) (n : ℕ) (line : ℕ → List ℕ) : Type 0 where
  pub many : length (text_lines text) ≡ n
  pub each : (i : ℕ) → i < n → line_at text i ≡ line i
