-- Worked examples, closed by computation.
use Rattle.std.specs.Prelude.{◌≡◌, refl, List, [], ◌∷◌, ◌++◌, map, ℕ}
use Rattle.bits.specs.Bytes.{le32}
use Rattle.lines.specs.Text.{decimal_text, refusal_text}
use Rattle.tally.specs.Usage.{placed, suppliers_of, count_of}
use Rattle.tally.specs.Faults.{faults_from}
use Rattle.statement_text.specs.Text.{lines_text, statement_text}

-- Segment 1 of supplier 7, and segment 2 of supplier 3.
abbrev pub seven : List ℕ
seven = 0xa5 ∷ 0x5a ∷ 1 ∷ 0 ∷ 7 ∷ 0 ∷ 0 ∷ 0 ∷ []

abbrev pub three : List ℕ
three = 0xa5 ∷ 0x5a ∷ 2 ∷ 0 ∷ 3 ∷ 0 ∷ 0 ∷ 0 ∷ []

-- The mark of a question to an SPK.
abbrev pub other : List ℕ
other = 0xa5 ∷ 0x5b ∷ 1 ∷ 0 ∷ 7 ∷ 0 ∷ 0 ∷ 0 ∷ []

-- `3 1`, `7 2` and `total 3`, each with a newline.
abbrev pub lines : List ℕ
lines = 51 ∷ 32 ∷ 49 ∷ 10 ∷ 55 ∷ 32 ∷ 50 ∷ 10 ∷ 116 ∷ 111 ∷ 116 ∷ 97 ∷ 108 ∷ 32 ∷ 51 ∷ 10 ∷ []

-- `total 0` and `refused 19 0`, with their newlines.
abbrev pub none : List ℕ
none = 116 ∷ 111 ∷ 116 ∷ 97 ∷ 108 ∷ 32 ∷ 48 ∷ 10 ∷ []

abbrev pub refused : List ℕ
refused = 114 ∷ 101 ∷ 102 ∷ 117 ∷ 115 ∷ 101 ∷ 100 ∷ 32 ∷ 49 ∷ 57 ∷ 32 ∷ 48 ∷ 10 ∷ []

-- Supplier 7, 3 and 7 again; the same in another order; no record; another mark in the second place; a last record of one byte.
pub statements : map statement_text ((seven ++ (three ++ seven)) ∷ (three ++ (seven ++ seven)) ∷ [] ∷ (seven ++ other) ∷ (seven ++ (0xa5 ∷ [])) ∷ [])
    ≡ lines ∷ lines ∷ none ∷ refused ∷ refused ∷ []
unfolding statement_text lines_text faults_from suppliers_of count_of placed le32 decimal_text refusal_text
statements = refl
