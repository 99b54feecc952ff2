-- What a usage file is refused for: its first fault in file order.
use Rattle.std.specs.Prelude.{ℕ, zero, suc, ◌%◌, Bool, not, List, [], ◌∷◌, ltb, eqb, length}
use Rattle.refusal.specs.declared.Refusal.TheVariants.{BadRecord, TooManySuppliers}
use Rattle.refusal.specs.Order.{Case, case}
use Rattle.records.specs.Records.{is_marked}
use Rattle.tally.specs.Usage.{usage_size, usage_mark, records_in, suppliers_of}

-- The most suppliers that a statement has.
abbrev pub supplier_limit : ℕ
supplier_limit = 512

-- 19: record i doesn't begin with the mark.
abbrev pub unmarked : List ℕ → ℕ → Bool
unmarked file i = not (is_marked usage_size usage_mark file i)

-- 20: with record i there are more suppliers than that.
abbrev pub crowded : List ℕ → ℕ → Bool
crowded file i = ltb supplier_limit (length (suppliers_of file (suc i)))

-- 19: the last record is cut short.
abbrev pub cut_short : List ℕ → Bool
cut_short file = not (eqb (length file % usage_size) 0)

-- The faults from record i on in file order, n whole records being left: at each record 19, then 20; last the record that is cut short.
unfoldable pub faults_from : List ℕ → ℕ → ℕ → List Case
faults_from file i zero = case (cut_short file) BadRecord ∷ []
faults_from file i (suc n) = case (unmarked file i) BadRecord ∷ (case (crowded file i) TooManySuppliers ∷ faults_from file (suc i) n)

-- The faults of a file.
abbrev pub faults : List ℕ → List Case
faults file = faults_from file 0 (records_in file)
