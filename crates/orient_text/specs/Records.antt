-- The records of a file of questions to a PCK.
use Rattle.std.specs.Prelude.{ℕ, ◌+◌, ◌*◌, List}
use Rattle.bits.specs.Bytes.{le32, signed32, double_at}
use Rattle.records.specs.declared.Mark.{Mark}
use Rattle.pck.specs.declared.Question.{Question}

-- A question record has 14 bytes and begins with the mark A5 5C.
abbrev pub question_size : ℕ
question_size = 14

abbrev pub question_mark : Mark
question_mark = record { first = 0xa5; second = 0x5c }

-- Question i: after the mark the body frame in four bytes, signed, and the epoch's eight.
unfoldable pub question_at : List ℕ → ℕ → Question
question_at s i =
    let p = question_size * i in
    record { body = signed32 (le32 s (p + 2)); et = double_at s (p + 6) }
