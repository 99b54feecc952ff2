-- A usage file's suppliers in order of number, each with the number of records that name it.
use Rattle.std.specs.Prelude.{ℕ, zero, suc, ◌+◌, ◌*◌, ◌/◌, cond, List, [], ◌∷◌, map, ltb, eqb, length}
use Rattle.bits.specs.Bytes.{le32}
use Rattle.records.specs.declared.Mark.{Mark}
use Rattle.tally.specs.declared.Line.{Line}

-- A usage record has eight bytes and begins with the mark A5 5A.
abbrev pub usage_size : ℕ
usage_size = 8

abbrev pub usage_mark : Mark
usage_mark = record { first = 0xa5; second = 0x5a }

-- How many whole records a file has.
abbrev pub records_in : List ℕ → ℕ
records_in file = length file / usage_size

-- The supplier that record i names: its last four bytes, unsigned. The two between the mark and these, a segment's number, are not looked at.
abbrev pub supplier_at : List ℕ → ℕ → ℕ
supplier_at file i = le32 file (usage_size * i + 4)

-- A supplier put among others in order of number; one who is there already is not put there again.
unfoldable pub placed : ℕ → List ℕ → List ℕ
placed s [] = s ∷ []
placed s (t ∷ ts) = cond (ltb s t) (s ∷ (t ∷ ts)) (cond (eqb s t) (t ∷ ts) (t ∷ placed s ts))

-- The suppliers that the first n records name, each once, in order of number.
unfoldable pub suppliers_of : List ℕ → ℕ → List ℕ
suppliers_of file zero = []
suppliers_of file (suc n) = placed (supplier_at file n) (suppliers_of file n)

-- How many of the first n records name supplier s.
unfoldable pub count_of : List ℕ → ℕ → ℕ → ℕ
count_of file zero s = 0
count_of file (suc n) s = cond (eqb (supplier_at file n) s) (suc (count_of file n s)) (count_of file n s)

-- The line of supplier s over the first n records.
abbrev pub line_of : List ℕ → ℕ → ℕ → Line
line_of file n s = record { supplier = s; count = count_of file n s }

-- The lines of the first n records: one for each supplier, in order of number.
abbrev pub lines_of : List ℕ → ℕ → List Line
lines_of file n = map (line_of file n) (suppliers_of file n)
