-- The records of a questions file, and the numbers of a matrix file.
use Rattle.std.specs.Prelude.{ℕ, ◌+◌, ◌*◌, List}
use Rattle.bits.specs.Bytes.{le32, signed32, double_at}
use Rattle.frame.specs.Frame.{Matrix, matrix}
use Rattle.records.specs.declared.Mark.{Mark}
use Rattle.spk.specs.declared.Question.{Question}

-- A question record has 18 bytes and begins with the mark A5 5B.
abbrev pub question_size : ℕ
question_size = 18

abbrev pub question_mark : Mark
question_mark = record { first = 0xa5; second = 0x5b }

-- Question i: after the mark target and center, four bytes each, signed, and the epoch's eight.
unfoldable pub question_at : List ℕ → ℕ → Question
question_at s i =
    let p = question_size * i in
    record { target = signed32 (le32 s (p + 2)); center = signed32 (le32 s (p + 6)); et = double_at s (p + 10) }

-- Nine doubles, row by row.
unfoldable pub rows_of : List ℕ → Matrix
rows_of s = matrix 3 (λ i j. double_at s (8 * (3 * i + j)))
