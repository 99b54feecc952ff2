-- A file of records: each has so many bytes, of which the first two are its mark.
use Rattle.std.specs.Prelude.{ℕ, zero, suc, ◌+◌, ◌*◌, ◌/◌, ◌%◌, Bool, true, ◌&&◌, List, eqb, length, get_or}
use Rattle.records.specs.declared.Mark.{Mark}

-- The two bytes at p are the mark.
abbrev pub begins : Mark → List ℕ → ℕ → Bool
begins mark s p = eqb (get_or s p 0) mark.first && eqb (get_or s (p + 1) 0) mark.second

-- Record i begins with the mark.
abbrev pub is_marked : ℕ → Mark → List ℕ → ℕ → Bool
is_marked size mark s i = begins mark s (size * i)

-- So does each of the first n records.
unfoldable pub all_marked : ℕ → Mark → List ℕ → ℕ → Bool
all_marked size mark s zero = true
all_marked size mark s (suc n) = all_marked size mark s n && is_marked size mark s n

-- No record is cut short, and each begins with the mark.
unfoldable pub records_fit : ℕ → Mark → List ℕ → Bool
unfolding all_marked
records_fit size mark s = eqb (length s % size) 0 && all_marked size mark s (length s / size)
