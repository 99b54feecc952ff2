-- The text of a usage statement, as a list of ASCII codes.
use Rattle.std.specs.Prelude.{ℕ, ◌+◌, ◌*◌, List, [], ◌∷◌, ◌++◌, ltb, length}
use Rattle.refusal.specs.declared.Refusal.TheVariants.{InputTooLong}
use Rattle.refusal.specs.Order.{case, first_of}
use Rattle.lines.specs.Text.{space, newline, decimal_text, refusal_text}
use Rattle.streams.specs.Input.{input_limit}
use Rattle.tally.specs.declared.Line.{Line}
use Rattle.tally.specs.Usage.{records_in, lines_of}
use Rattle.tally.specs.Faults.{supplier_limit, faults}

-- A supplier's line: his number, a space, his count.
abbrev pub line_text : Line → List ℕ
line_text l = decimal_text l.supplier ++ ((space ∷ []) ++ (decimal_text l.count ++ (newline ∷ [])))

-- One line after the other.
unfoldable pub lines_text : List Line → List ℕ
lines_text [] = []
lines_text (l ∷ ls) = line_text l ++ lines_text ls

-- `total`, a space, the total.
abbrev pub total_text : ℕ → List ℕ
total_text n = (116 ∷ 111 ∷ 116 ∷ 97 ∷ 108 ∷ space ∷ []) ++ (decimal_text n ++ (newline ∷ []))

-- The text of a statement: its lines, then the total.
abbrev pub stated_text : List Line → ℕ → List ℕ
stated_text lines total = lines_text lines ++ total_text total

-- The text of a usage file's statement: the refusal of its first fault alone, or the statement.
unfoldable pub statement_text : List ℕ → List ℕ
statement_text file = first_of (faults file) refusal_text (stated_text (lines_of file (records_in file)) (records_in file))

-- What the program prints: 18 comes first.
unfoldable pub program_text : List ℕ → List ℕ
program_text file = first_of (case (ltb input_limit (length file)) InputTooLong ∷ []) refusal_text (statement_text file)

-- A line has at most 42 bytes, the last one 27: room for every statement.
abbrev pub statement_room : ℕ
statement_room = 42 * supplier_limit + 27
