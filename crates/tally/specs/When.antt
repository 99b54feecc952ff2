-- When a usage file is refused with 19, when with 20, and when it has a statement.
use Rattle.std.specs.Prelude.{ℕ, suc, ◌%◌, ◌≤◌, ◌<◌, ◌≡◌, true, false, ◌⊎◌, List, length}
use Rattle.records.specs.Records.{is_marked}
use Rattle.tally.specs.Usage.{usage_size, usage_mark, records_in, suppliers_of}
use Rattle.tally.specs.Faults.{supplier_limit}

-- The first i records have no fault: each begins with the mark, and they name no more suppliers than a statement has lines.
pub record Sound (file : List ℕ) (i : ℕ) : Type 0 where
  pub marks : (k : ℕ) → k < i → is_marked usage_size usage_mark file k ≡ true
  pub few : length (suppliers_of file i) ≤ supplier_limit

-- 19: there is a first faulty record, and it doesn't begin with the mark or is cut short.
pub record BadAt (file : List ℕ) (i : ℕ) : Type 0 where
  pub sound : Sound file i
  pub bad : ((i < records_in file) × (is_marked usage_size usage_mark file i ≡ false)) ⊎ ((i ≡ records_in file) × (length file % usage_size ≡ 0 → ⊥))

-- 20: there is a first faulty record, it begins with the mark, and its supplier is one too many.
pub record CrowdedAt (file : List ℕ) (i : ℕ) : Type 0 where
  pub sound : Sound file i
  pub within : i < records_in file
  pub marked : is_marked usage_size usage_mark file i ≡ true
  pub crowds : supplier_limit < length (suppliers_of file (suc i))

-- Neither: no record is faulty.
pub record Faultless (file : List ℕ) : Type 0 where
  pub sound : Sound file (records_in file)
  pub whole : length file % usage_size ≡ 0
