-- What opening a DAF results in: refusals 1 to 8 in their order, else its first summary record, its records and its summaries.
use Rattle.std.specs.Prelude.{ℕ, List, [], ◌∷◌, ◌++◌, ltb, length, Result, Ok, Err}
use Rattle.refusal.specs.declared.Refusal.TheVariants.{RecordPastEnd, RecordTwice, CountOver25, TooManySummaries}
use Rattle.refusal.specs.Order.{Case, case, first_of}
use Rattle.daf.specs.FileRecord.{file_cases, fward}
use Rattle.daf.specs.Walk.{walk, records_in, is_past_end, is_twice}
use Rattle.daf.specs.Summaries.{any_over25, total}
use Rattle.daf.specs.declared.Family.{Family}
use Rattle.daf.specs.declared.Daf.{Daf}
use Rattle.refusal.specs.declared.Refusal.{Refusal}

-- The records walked from a first one on.
abbrev pub records_from : List ℕ → ℕ → List ℕ
records_from k first = records_in (walk k first)

-- The whole walk (5, 6), all counts (7), then their sum (8) against the table's limit.
abbrev pub walk_cases : ℕ → List ℕ → ℕ → List Case
walk_cases limit k first =
    case (is_past_end (walk k first)) RecordPastEnd
    ∷ case (is_twice (walk k first)) RecordTwice
    ∷ case (any_over25 k (records_from k first)) CountOver25
    ∷ case (ltb limit (total k (records_from k first))) TooManySummaries
    ∷ []

-- An opened DAF.
abbrev pub daf_of : List ℕ → ℕ → Daf
daf_of k first = record { first = first; records = length (records_from k first); summaries = total k (records_from k first) }

-- Refusals 1 to 8, in their order.
abbrev pub cases : Family → ℕ → List ℕ → List Case
cases f limit k = file_cases f k ++ walk_cases limit k (fward k)

-- The opening.
unfoldable pub opening : Family → ℕ → List ℕ → Result Daf Refusal
opening f limit k = first_of (cases f limit k) Err (Ok (daf_of k (fward k)))

-- The records of a kernel, from its file record on.
abbrev pub records_of : List ℕ → List ℕ
records_of k = records_from k (fward k)
