-- The theorems on usage statements. Assumes nothing.
use Prim.Native.Nat.{ℕ, ◌+◌, ◌<◌}
use mathlib.Core.Path.{◌≡◌, refl, sym, ap, ◌∙◌}
use mathlib.Core.Bool.{Bool, true, false, cond}
use mathlib.Core.List.{List, [], ◌∷◌, ◌++◌, map, append_assoc, append-nil}
use native.Mathlib.Omega.{arith}
use lib.Dec.{ltb}
use lib.ListN.{length, get_or, length-map}
use borrow.Author.Tests.{lt-ltb, le-ltb, ltb-true}
use Rattle.std.specs.Prelude.{Ok, Err}
use Rattle.refusal.specs.declared.Refusal.TheVariants.{TooManySuppliers}
use Rattle.tally.specs.declared.Line.{Line}
use Rattle.tally.specs.Usage.{records_in, supplier_at, suppliers_of, count_of, line_of}
use Rattle.tally.specs.Faults.{supplier_limit}
use Rattle.tally.specs.Statement.{stated, outcome_number, statement_of}
use Rattle.tally.specs.Merging.{merged}
use Rattle.tally.proofs.Order.{suppliers_rise, rises_at}
use Rattle.tally.proofs.Tallying.{get_d_mapped}
use Rattle.tally.proofs.Ways.{suppliers_of_lines, counts_of_lines}
use Rattle.tally.proofs.Exactly.{by_number, bad_where, bad_only, crowded_where, crowded_only, stated_where, stated_only}
use Rattle.tally.proofs.Same.{has, has_suppliers, has_place, has_there, named_once, adds_up}
use Rattle.tally.proofs.Merge.{Fit, faultless_fit, merge_law}
use Rattle.tally.proofs.Permuted.{count_naming, permuted}
use Rattle.lines.specs.Text.{space}
use Rattle.lines.specs.Lines.{text_lines}
use Rattle.lines.proofs.Lines.{OneLine, ended, in_front, alone, word, decimal_plain}
use Rattle.streams.specs.Input.{input_limit}
use Rattle.statement_text.specs.Text.{line_text, lines_text, total_text}
use Rattle.statement_text.proofs.Lines.{refused_text, stated_text_lem, text_of, program_text_lem}
use Rattle.demands.specs.Statements.{Accepted, lines_in, payee, due, Itemised, ItemisedAlways, ExactlyWhen, NoLine, StatementLines, Merge, AnyOrder}

-- the suppliers and counts of a file's lines
payee_at : (file : List ℕ) (k : ℕ) → payee file k ≡ get_or (suppliers_of file (records_in file)) k 0
payee_at file k = ap (λ (l : List ℕ). get_or l k 0) (suppliers_of_lines file (records_in file) (suppliers_of file (records_in file)))

many_lines : (file : List ℕ) → length (lines_in file) ≡ length (suppliers_of file (records_in file))
many_lines file = length-map (suppliers_of file (records_in file)) (line_of file (records_in file))

due_at : (file : List ℕ) (k : ℕ) → k < length (lines_in file) → due file k ≡ count_of file (records_in file) (payee file k)
due_at file k h =
    ap (λ (l : List ℕ). get_or l k 0) (counts_of_lines file (records_in file) (suppliers_of file (records_in file)))
    ∙ get_d_mapped (count_of file (records_in file)) (suppliers_of file (records_in file)) k (omega (arith, many_lines file))
    ∙ ap (count_of file (records_in file)) (sym (payee_at file k))

module _ (file : List ℕ) (ok : Accepted file) where
  -- an accepted file has no fault, and so its statement
  stands : statement_of file ≡ Ok (stated (lines_in file) (records_in file))
  stands = stated_where file (stated_only file ok)

  pub itemised : Itemised file
  itemised = record {
    answer = stands;
    text = (stated_text_lem file _ stands).1;
    rising = λ i j h b.
        omega (arith, payee_at file i, payee_at file j, rises_at (suppliers_of file (records_in file)) i j (suppliers_rise file (records_in file)) h (omega (arith, many_lines file)));
    everyone = λ i h.
        let p = has_place (supplier_at file i) (suppliers_of file (records_in file))
        (has_suppliers file (records_in file) (supplier_at file i) ∙ lt-ltb 0 (count_of file (records_in file) (supplier_at file i)) (named_once file (records_in file) i h)) in
        (p.0, omega (arith, p.1, many_lines file), payee_at file p.0 ∙ p.2);
    counted = λ k h.
        let here : has (payee file k) (suppliers_of file (records_in file)) ≡ true =
        ap (λ (s : ℕ). has s (suppliers_of file (records_in file))) (payee_at file k) ∙ has_there (suppliers_of file (records_in file)) k (omega (arith, many_lines file)) in (
          due_at file k h ∙ count_naming file (records_in file) (payee file k),
          omega (arith, due_at file k h, ltb-true 0 (count_of file (records_in file) (payee file k)) (sym (has_suppliers file (records_in file) (payee file k)) ∙ here)),
        );
    total = adds_up file (records_in file);
  }

pub itemised_always : ItemisedAlways
itemised_always file ok = itemised file ok

pub exactly_when : ExactlyWhen
exactly_when file = (
  (bad_only file, bad_where file),
  (crowded_only file, crowded_where file),
  (stated_only file, λ f. ap outcome_number (stated_where file f)),
  λ n e a b. by_number file (λ _ q. absurd (a (sym e ∙ q))) (λ _ q. absurd (b (sym e ∙ q))) (λ _ q. sym e ∙ q),
)

pub no_line : NoLine
no_line file = (
  refused_text file,
  λ h. program_text_lem file true (lt-ltb input_limit (length file) h),
  λ h. program_text_lem file false (le-ltb input_limit (length file) h),
)

-- ---- read line by line
line_line : (l : Line) → OneLine (line_text l)
line_line l = in_front (decimal_plain l.supplier) (in_front (word (space ∷ []) refl) (in_front (decimal_plain l.count) ended))

total_line : (n : ℕ) → OneLine (total_text n)
total_line n = in_front (word (116 ∷ 111 ∷ 116 ∷ 97 ∷ 108 ∷ space ∷ []) refl) (in_front (decimal_plain n) ended)

lines_then : (ls : List Line) (rest : List ℕ) → text_lines (lines_text ls ++ rest) ≡ map line_text ls ++ text_lines rest
unfolding lines_text
lines_then [] rest = refl
lines_then (l ∷ ls) rest =
    ap text_lines (append_assoc (line_text l) (lines_text ls) rest)
    ∙ (line_line l).first (lines_text ls ++ rest)
    ∙ ap (λ (t : List (List ℕ)). line_text l ∷ t) (lines_then ls rest)

pub statement_lines : StatementLines
statement_lines file ok =
    ap text_lines (itemised file ok).text
    ∙ lines_then (lines_in file) (total_text (records_in file))
    ∙ ap (λ (t : List (List ℕ)). map line_text (lines_in file) ++ t)
    (alone (total_line (records_in file)))

-- an accepted file has no broken record
fit : (file : List ℕ) → Accepted file → Fit file
fit file ok = faultless_fit file (stated_only file ok)

pub merge : Merge
merge a b ok ok' = (
  λ h. text_of (a ++ b) lines total (merge_law a b (fit a ok) (fit b ok') ∙ by false (le-ltb supplier_limit (length lines) h)),
  λ h. refused_text (a ++ b) TooManySuppliers (merge_law a b (fit a ok) (fit b ok') ∙ by true (lt-ltb supplier_limit (length lines) h)),
)
  where
    lines : List Line
    lines = merged (lines_in a) (lines_in b)

    total : ℕ
    total = records_in a + records_in b

    by : (t : Bool) → ltb supplier_limit (length lines) ≡ t
        → cond (ltb supplier_limit (length lines)) (Err TooManySuppliers) (Ok (stated lines total)) ≡ cond t (Err TooManySuppliers) (Ok (stated lines total))
    by t q = ap (λ (u : Bool). cond u (Err TooManySuppliers) (Ok (stated lines total))) q

pub any_order : AnyOrder
any_order a b ok whole p =
    text_of a (lines_in a) (records_in a) (stands a ok)
    ∙ sym (text_of b (lines_in a) (records_in a) (sym (permuted a b (fit a ok) whole p) ∙ stands a ok))
