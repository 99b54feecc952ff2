-- What is proved of usage statements, as a ledger keeper reads it. The contracts say what the functions return and write: `statement_of` is what
-- `tally::add_up` returns, `statement_text` what `statement_text::put_statement` puts into a buffer, `program_text` every byte that `statement` prints.
use Rattle.std.specs.Prelude.{ℕ, ◌+◌, ◌%◌, ◌≤◌, ◌<◌, ◌≡◌, Ok, Err, length, get_or}
use mathlib.Core.List.{List, [], ◌∷◌, ◌++◌, map, Permᴰ}
use Rattle.refusal.specs.declared.Refusal.{Refusal}
use Rattle.refusal.specs.declared.Refusal.TheVariants.{InputTooLong, BadRecord, TooManySuppliers}
use Rattle.lines.specs.Text.{refusal_text}
use Rattle.lines.specs.Lines.{text_lines}
use Rattle.streams.specs.Input.{input_limit}
use Rattle.tally.specs.declared.Line.{Line}
use Rattle.tally.specs.Usage.{usage_size, records_in, supplier_at, lines_of}
use Rattle.tally.specs.Faults.{supplier_limit}
use Rattle.tally.specs.Statement.{stated, outcome_number, statement_of}
use Rattle.tally.specs.Merging.{sum_of, merged, records_of, naming}
use Rattle.tally.specs.When.{BadAt, CrowdedAt, Faultless}
use Rattle.statement_text.specs.Text.{line_text, total_text, stated_text, statement_text, program_text}

-- The number that a file is refused with: 0 where it is not.
abbrev pub number_for : List ℕ → ℕ
number_for file = outcome_number (statement_of file)

-- A file that has a statement.
abbrev pub Accepted : List ℕ → Type 0
Accepted file = number_for file ≡ 0

-- Its lines, the supplier and the count of line k, and its records.
abbrev pub lines_in : List ℕ → List Line
lines_in file = lines_of file (records_in file)

abbrev pub payee : List ℕ → ℕ → ℕ
payee file k = get_or (map (λ (l : Line). l.supplier) (lines_in file)) k 0

abbrev pub due : List ℕ → ℕ → ℕ
due file k = get_or (map (λ (l : Line). l.count) (lines_in file)) k 0

abbrev pub record_list : List ℕ → List (List ℕ)
record_list file = records_of file (records_in file)

-- **itemised.** Of an accepted file:
pub record Itemised (file : List ℕ) : Type 0 where
  -- these lines and the number of records are its statement, and every byte that is written of it;
  pub answer : statement_of file ≡ Ok (stated (lines_in file) (records_in file))
  pub text : statement_text file ≡ stated_text (lines_in file) (records_in file)
  -- suppliers stand in rising order, so each stands once;
  pub rising : (i j : ℕ) → i < j → j < length (lines_in file) → payee file i < payee file j
  -- every record's supplier has a line;
  pub everyone : (i : ℕ) → i < records_in file → (k : ℕ) × (k < length (lines_in file)) × (payee file k ≡ supplier_at file i)
  -- the count of a line is the number of records that name its supplier, and some record does;
  pub counted : (k : ℕ) → k < length (lines_in file) → (due file k ≡ naming (payee file k) (record_list file)) × (0 < due file k)
  -- the counts add up to the number of records.
  pub total : sum_of (lines_in file) ≡ records_in file

abbrev pub ItemisedAlways : Type 0
ItemisedAlways = (file : List ℕ) → Accepted file → Itemised file

-- **exactly-when, 19 and 20.** A file is refused with 19 if and only if its first faulty record doesn't begin with the mark or is cut short, with 20 if
-- and only if the supplier of its first faulty record is the 513th, and accepted if and only if no record is faulty. No other number is given.
abbrev pub ExactlyWhen : Type 0
ExactlyWhen = (file : List ℕ)
    → ((number_for file ≡ 19 → (i : ℕ) × BadAt file i) × ((i : ℕ) → BadAt file i → statement_of file ≡ Err BadRecord))
    × ((number_for file ≡ 20 → (i : ℕ) × CrowdedAt file i) × ((i : ℕ) → CrowdedAt file i → statement_of file ≡ Err TooManySuppliers))
    × ((Accepted file → Faultless file) × (Faultless file → Accepted file))
    × ((n : ℕ) → number_for file ≡ n → (n ≡ 19 → ⊥) → (n ≡ 20 → ⊥) → n ≡ 0)

-- **no-line.** A refused file gives the line of its refusal and no other; the program refuses a file over its limit before all else.
abbrev pub NoLine : Type 0
NoLine = (file : List ℕ)
    → ((r : Refusal) → statement_of file ≡ Err r → statement_text file ≡ refusal_text r)
    × (input_limit < length file → program_text file ≡ refusal_text InputTooLong)
    × (length file ≤ input_limit → program_text file ≡ statement_text file)

-- **statement-lines.** Read line by line, an accepted file's text is a line for each supplier, in their order, and last the total.
abbrev pub StatementLines : Type 0
StatementLines = (file : List ℕ) → Accepted file → text_lines (statement_text file) ≡ map line_text (lines_in file) ++ (total_text (records_in file) ∷ [])

-- **merge.** The statement of two accepted files put together is their two statements merged, count by count, and its total the sum of theirs, while it
-- has at most 512 suppliers; else it is 20. So logs can be split over machines, and their statements added up.
abbrev pub Merge : Type 0
Merge = (a b : List ℕ) → Accepted a → Accepted b
    → (length (merged (lines_in a) (lines_in b)) ≤ supplier_limit → statement_text (a ++ b) ≡ stated_text (merged (lines_in a) (lines_in b)) (records_in a + records_in b))
    × (supplier_limit < length (merged (lines_in a) (lines_in b)) → statement_text (a ++ b) ≡ refusal_text TooManySuppliers)

-- **any-order.** An accepted file with its records in another order has the same statement, byte for byte.
abbrev pub AnyOrder : Type 0
AnyOrder = (a b : List ℕ) → Accepted a → length b % usage_size ≡ 0 → Permᴰ (record_list a) (record_list b) → statement_text a ≡ statement_text b
