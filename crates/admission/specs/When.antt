-- When a program refuses its files with 18, when with 19, and when with the opening's refusal: what the statements say. Assumes nothing: these are
-- definitions.
use Rattle.std.specs.Prelude.{ℕ, ◌/◌, ◌%◌, ◌≤◌, ◌<◌, ◌≡◌, false, ◌⊎◌, List, length, Ok, Err}
use Rattle.refusal.specs.declared.Refusal.{Refusal}
use Rattle.daf.specs.declared.Family.{Family}
use Rattle.opening.specs.Lent.{found}
use Rattle.records.specs.declared.Mark.{Mark}
use Rattle.records.specs.Records.{is_marked}
use Rattle.streams.specs.Input.{input_limit}

-- 18: the kernel or the file of records is over the limit.
abbrev pub When18 : List ℕ → List ℕ → Type 0
When18 kernel file = (input_limit < length kernel) ⊎ (input_limit < length file)

-- Neither is.
pub record Short (kernel file : List ℕ) : Type 0 where
  pub kernel_fits : length kernel ≤ input_limit
  pub file_fits : length file ≤ input_limit

-- With a matrix file: that file too.
abbrev pub MatrixLong : List ℕ → List ℕ → List ℕ → Type 0
MatrixLong kernel file matrix = (input_limit < length matrix) ⊎ When18 kernel file

-- None of the three is.
pub record AllShort (kernel file matrix : List ℕ) : Type 0 where
  pub kernel_fits : length kernel ≤ input_limit
  pub file_fits : length file ≤ input_limit
  pub matrix_fits : length matrix ≤ input_limit

-- A record doesn't begin with its mark, or one is cut short.
abbrev pub BadFile : ℕ → Mark → List ℕ → Type 0
BadFile size mark file =
    ((i : ℕ) × (i < length file / size) × (is_marked size mark file i ≡ false)) ⊎ (length file % size ≡ 0 → ⊥)

module _ (f : Family) (limit size : ℕ) (mark : Mark) (kernel file : List ℕ) where
  -- The opening's refusal: no file is too long, and the opening is refused so.
  pub record WhenOpening (r : Refusal) : Type 0 where
    pub short : Short kernel file
    pub refused : found f limit kernel ≡ Err r

  -- 19: no file is too long, the opening is accepted, and a record is bad.
  pub record When19 : Type 0 where
    pub short : Short kernel file
    pub count : ℕ
    pub accepted : found f limit kernel ≡ Ok count
    pub bad : BadFile size mark file

-- The numbers that are given: the opening's 1 to 9, 18 and 19.
abbrev pub ProgramNumber : ℕ → Type 0
ProgramNumber k = ((1 ≤ k) × (k ≤ 9)) ⊎ (k ≡ 18) ⊎ (k ≡ 19)
