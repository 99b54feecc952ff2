-- The ways through a usage file: what its statement is from record i on. Assumes nothing.
use mathlib.Core.Path.{◌≡◌, refl, sym, ap, ap₂, ◌∙◌}
use mathlib.Core.Bool.{Bool, true, false, cond, not}
use mathlib.Core.List.{List, [], ◌∷◌, map}
use Prim.Native.Nat.{ℕ, suc, ◌+◌, ◌-◌, ◌%◌, ◌≤◌, ◌<◌}
use native.Mathlib.Numerals.{add-one}
use native.Mathlib.Omega.{arith}
use lib.Dec.{ltb}
use lib.ListN.{length, replicate, length-map}
use borrow.Author.Tests.{lt-ltb, le-ltb, eq-eqb, ne_eqb}
use Rattle.std.specs.Prelude.{Result, Ok, Err}
use Rattle.refusal.specs.declared.Refusal.{Refusal}
use Rattle.refusal.specs.declared.Refusal.TheVariants.{BadRecord, TooManySuppliers}
use Rattle.refusal.specs.Order.{first_of}
use Rattle.records.specs.Records.{is_marked}
use Rattle.tally.specs.declared.Statement.{Statement}
use Rattle.tally.specs.declared.Line.{Line}
use Rattle.tally.specs.Usage.{usage_size, usage_mark, records_in, suppliers_of, count_of, line_of, lines_of}
use Rattle.tally.specs.Faults.{supplier_limit, unmarked, crowded, cut_short, faults_from}
use Rattle.tally.specs.Statement.{no_line, padded, stated, statement_of}
use Rattle.tally.specs.Steps.{Tallied}

-- the statement where there is no fault
abbrev pub answer : List ℕ → Result Statement Refusal
answer file = Ok (stated (lines_of file (records_in file)) (records_in file))

-- what the faults from record i on leave of it, n whole records being left
unfoldable pub stands_for : List ℕ → ℕ → ℕ → Result Statement Refusal
stands_for file i n = first_of (faults_from file i n) Err (answer file)

-- what all of them from record i on leave
abbrev pub stands : List ℕ → ℕ → Result Statement Refusal
stands file i = stands_for file i (records_in file - i)

pub from_start : (file : List ℕ) → statement_of file ≡ stands file 0
unfolding statement_of stands_for
from_start file = ap (stands_for file 0) none_before
  where
    none_before : records_in file ≡ records_in file - 0
    none_before = omega arith

-- a whole record, by its two tests
module _ (file : List ℕ) (i : ℕ) (below : i < records_in file) where
  one_left : records_in file - i ≡ suc (records_in file - (i + 1))
  one_left = omega arith

  turn : (b c : Bool) → unmarked file i ≡ b → crowded file i ≡ c
      → stands file i ≡ cond b (Err BadRecord) (cond c (Err TooManySuppliers) (stands file (i + 1)))
  unfolding stands_for faults_from
  turn b c p q =
      ap (stands_for file i) one_left
      ∙ ap₂ (λ (s t : Bool). cond s (Err BadRecord) (cond t (Err TooManySuppliers) (stands_for file (suc i) (records_in file - (i + 1))))) p q
      ∙ ap (λ (j : ℕ). cond b (Err BadRecord) (cond c (Err TooManySuppliers) (stands_for file j (records_in file - (i + 1))))) (sym (add-one i))

  pub broken_here : is_marked usage_size usage_mark file i ≡ false → stands file i ≡ Err BadRecord
  broken_here m = turn true (crowded file i) (ap not m) refl

  -- as many suppliers as there are with this record
  with_this : (k : ℕ) → k ≡ length (suppliers_of file (i + 1)) → crowded file i ≡ ltb supplier_limit k
  with_this k e = ap (ltb supplier_limit) (ap (λ (j : ℕ). length (suppliers_of file j)) (sym (add-one i)) ∙ sym e)

  pub crowded_here : (k : ℕ) → k ≡ length (suppliers_of file (i + 1)) → is_marked usage_size usage_mark file i ≡ true → supplier_limit < k → stands file i ≡ Err TooManySuppliers
  crowded_here k e m h = turn false true (ap not m) (with_this k e ∙ lt-ltb supplier_limit k h)

  pub sound_here : (k : ℕ) → k ≡ length (suppliers_of file (i + 1)) → is_marked usage_size usage_mark file i ≡ true → k ≤ supplier_limit → stands file i ≡ stands file (i + 1)
  sound_here k e m h = turn false false (ap not m) (with_this k e ∙ le-ltb supplier_limit k h)

-- past the last whole record
module _ (file : List ℕ) (i : ℕ) (past : records_in file ≤ i) where
  none_left : records_in file - i ≡ 0
  none_left = omega arith

  last : (b : Bool) → cut_short file ≡ b → stands file i ≡ cond b (Err BadRecord) (answer file)
  unfolding stands_for faults_from
  last b p = ap (stands_for file i) none_left ∙ ap (λ (s : Bool). cond s (Err BadRecord) (answer file)) p

  pub cut_there : (length file % usage_size ≡ 0 → ⊥) → stands file i ≡ Err BadRecord
  cut_there h = last true (ap not (ne_eqb (length file % usage_size) 0 h))

  pub whole_there : length file % usage_size ≡ 0 → stands file i ≡ answer file
  whole_there h = last false (ap not (eq-eqb (length file % usage_size) 0 h))

-- suppliers and counts of the lines
pub suppliers_of_lines : (file : List ℕ) (n : ℕ) (l : List ℕ) → map (λ (x : Line). x.supplier) (map (line_of file n) l) ≡ l
suppliers_of_lines file n [] = refl
suppliers_of_lines file n (s ∷ ss) = ap (λ (t : List ℕ). s ∷ t) (suppliers_of_lines file n ss)

pub counts_of_lines : (file : List ℕ) (n : ℕ) (l : List ℕ) → map (λ (x : Line). x.count) (map (line_of file n) l) ≡ map (count_of file n) l
counts_of_lines file n [] = refl
counts_of_lines file n (s ∷ ss) = ap (λ (t : List ℕ). count_of file n s ∷ t) (counts_of_lines file n ss)

-- nothing is tallied at the start
pub tallied_none : (file : List ℕ) → Tallied file 0 (replicate supplier_limit no_line) 0
unfolding suppliers_of
tallied_none file = record { few = omega arith; many = refl; held = refl }

-- what is tallied at the end is the statement
pub tallied_all : (file : List ℕ) (lines : List Line) (known : ℕ) → Tallied file (records_in file) lines known
    → ◌≡◌ {A = Result Statement Refusal} (Ok (record { lines = lines; known = known; total = records_in file })) (answer file)
tallied_all file lines known h =
    ap₂ (λ (l : List Line) (k : ℕ). Ok (record { lines = l; known = k; total = records_in file })) h.held
    (h.many ∙ sym (length-map (suppliers_of file (records_in file)) (line_of file (records_in file))))
