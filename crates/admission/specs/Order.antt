-- The refusals of a kernel with a file of records, in their order.
use Rattle.std.specs.Prelude.{ℕ, Bool, cond, not, ◌||◌, List, [], ◌∷◌, ◌++◌, eqb, ltb, length, Ok, Err, Result}
use Rattle.refusal.specs.declared.Refusal.TheVariants.{InputTooLong, BadRecord}
use Rattle.refusal.specs.Order.{Case, case, first_of}
use Rattle.daf.specs.declared.Family.{Family}
use Rattle.opening.specs.declared.Opened.{Opened}
use Rattle.table.specs.Places.{table_limit}
use Rattle.opening.specs.Opening.{places_of, refused_opening, accepted_opening, marked_for, table_of, segments_of, open_cases}
use Rattle.opening.specs.Steps.{Plan, filling, start_of}
use Rattle.records.specs.declared.Mark.{Mark}
use Rattle.records.specs.Records.{records_fit}
use Rattle.streams.specs.Input.{input_limit}
use Rattle.admission.specs.declared.MatrixFault.{MatrixFault}
use Rattle.admission.specs.declared.MatrixFault.TheVariants.{TooLong, Unfit}

-- An input is over the limit.
abbrev pub too_long : List ℕ → List ℕ → Bool
too_long kernel file = ltb input_limit (length kernel) || ltb input_limit (length file)

-- With a matrix file: that file too.
abbrev pub any_too_long : List ℕ → List ℕ → List ℕ → Bool
any_too_long kernel file matrix = ltb input_limit (length matrix) || too_long kernel file

-- A matrix file has nine doubles.
abbrev pub matrix_size : ℕ
matrix_size = 72

-- A run with a matrix: 18 of any of the three files; then a matrix file of another length is none.
unfoldable pub matrix_for : List ℕ → List ℕ → List ℕ → Result (Unit {0}) MatrixFault
matrix_for kernel file matrix =
    cond (any_too_long kernel file matrix) (Err TooLong) (cond (eqb (length matrix) matrix_size) (Ok tt) (Err Unfit))

-- 19: a record is cut short, or doesn't begin with its mark.
abbrev pub record_cases : ℕ → Mark → List ℕ → List Case
record_cases size mark file = case (not (records_fit size mark file)) BadRecord ∷ []

-- The refusals of a run, whatever the length of its files: the opening's 1 to 9, then 19.
abbrev pub cases_of : Family → ℕ → ℕ → Mark → List ℕ → List ℕ → List Case
cases_of f limit size mark kernel file = open_cases f limit kernel ++ record_cases size mark file

-- The first of them that holds is given; where none does, the plan of the kernel's opening.
unfoldable pub run_plan : Family → ℕ → ℕ → Mark → List ℕ → List ℕ → Plan
run_plan f limit size mark kernel file = first_of (cases_of f limit size mark kernel file) Err (Ok (filling (length (places_of kernel)) (start_of kernel)))

-- A program has 18 before them.
abbrev pub file_cases : Family → ℕ → ℕ → Mark → List ℕ → List ℕ → List Case
file_cases f limit size mark kernel file = case (too_long kernel file) InputTooLong ∷ cases_of f limit size mark kernel file

unfoldable pub plan_for : Family → ℕ → ℕ → Mark → List ℕ → List ℕ → Plan
unfolding run_plan
plan_for f limit size mark kernel file = first_of (case (too_long kernel file) InputTooLong ∷ []) Err (run_plan f limit size mark kernel file)

-- With the table by value, the kernel's table.
unfoldable pub opened_for : Family → ℕ → Mark → List ℕ → List ℕ → Opened
opened_for f size mark kernel file =
    first_of (file_cases f table_limit size mark kernel file) refused_opening (accepted_opening (marked_for f (table_of (segments_of f kernel))))
