-- The statement of a usage file: its lines and their total, or the refusal of its first fault.
use Rattle.std.specs.Prelude.{ℕ, ◌-◌, Result, Ok, Err, List, ◌++◌, length, replicate}
use Rattle.refusal.specs.declared.Refusal.{Refusal}
use Rattle.refusal.specs.Numbers.{number_of}
use Rattle.refusal.specs.Order.{first_of}
use Rattle.tally.specs.declared.Statement.{Statement}
use Rattle.tally.specs.declared.Line.{Line}
use Rattle.tally.specs.Usage.{records_in, lines_of}
use Rattle.tally.specs.Faults.{supplier_limit, faults}

-- Lines in as many places as a statement has lines at most: places past them hold a line of zeros.
abbrev pub no_line : Line
no_line = record { supplier = 0; count = 0 }

abbrev pub padded : List Line → List Line
padded lines = lines ++ replicate (supplier_limit - length lines) no_line

-- A statement of these lines.
abbrev pub stated : List Line → ℕ → Statement
stated lines total = record { lines = padded lines; known = length lines; total = total }

-- The number of a file's refusal in the table of refusals: 0 where it has a statement.
abbrev pub outcome_number : Result Statement Refusal → ℕ
outcome_number (Ok s) = 0
outcome_number (Err r) = number_of r

-- The statement of a file, or its refusal, which comes with no line.
unfoldable pub statement_of : List ℕ → Result Statement Refusal
statement_of file = first_of (faults file) Err (Ok (stated (lines_of file (records_in file)) (records_in file)))
