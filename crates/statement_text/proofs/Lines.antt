-- The lines of a statement as they stand in its places, and the text of a refused and of a stated file. Assumes nothing.
use mathlib.Core.Path.{◌≡◌, refl, sym, ap, ◌∙◌}
use mathlib.Core.Bool.{Bool, cond}
use mathlib.Core.Logic.{⊎_elim}
use mathlib.Core.List.{List, [], ◌∷◌, ◌++◌, append-nil, append_assoc}
use Prim.Native.Nat.{ℕ, suc, ◌+◌, ◌≤◌, ◌<◌}
use native.Mathlib.Numerals.{add-one}
use native.Mathlib.Omega.{arith}
use lib.Dec.{ltb}
use lib.ListN.{length, get_or, take, length-map}
use lib.Seq.{take-suc, take_at}
use Rattle.std.specs.Prelude.{Result, Ok, Err}
use Rattle.refusal.specs.declared.Refusal.{Refusal}
use Rattle.refusal.specs.declared.Refusal.TheVariants.{InputTooLong}
use Rattle.refusal.proofs.Exactly.{first_two}
use Rattle.lines.specs.Text.{refusal_text}
use Rattle.streams.specs.Input.{input_limit}
use Rattle.tally.specs.declared.Statement.{Statement}
use Rattle.tally.specs.declared.Line.{Line}
use Rattle.tally.specs.Usage.{records_in, suppliers_of, line_of, lines_of}
use Rattle.tally.specs.Faults.{supplier_limit, faults}
use Rattle.tally.specs.Statement.{padded, stated, outcome_number, statement_of}
use Rattle.tally.proofs.Ways.{answer}
use Rattle.tally.proofs.Exactly.{stated_only}
use Rattle.statement_text.specs.Text.{line_text, lines_text, total_text, stated_text, statement_text, program_text}

lines_both : (a b : List Line) → lines_text (a ++ b) ≡ lines_text a ++ lines_text b
unfolding lines_text
lines_both [] b = refl
lines_both (l ∷ ls) b = ap (λ (t : List ℕ). line_text l ++ t) (lines_both ls b) ∙ sym (append_assoc (line_text l) (lines_text ls) (lines_text b))

-- one line more
pub lines_next : (ls : List Line) (i : ℕ) (d : Line) → i < length ls → lines_text (take i ls) ++ line_text (get_or ls i d) ≡ lines_text (take (i + 1) ls)
unfolding lines_text
lines_next ls i d h =
    ap (λ (t : List ℕ). lines_text (take i ls) ++ t) (sym (append-nil (line_text (get_or ls i d))))
    ∙ sym (lines_both (take i ls) (get_or ls i d ∷ []))
    ∙ ap lines_text (sym (take-suc ls i d h))
    ∙ ap (λ (k : ℕ). lines_text (take k ls)) (sym (add-one i))

-- the lines of a statement, out of its places
pub lines_held : (ls : List Line) → take (length ls) (padded ls) ≡ ls
lines_held ls = take_at ls _ (length ls) refl

-- a file's statement and its text
module _ (file : List ℕ) where
  pub refused_text : (r : Refusal) → statement_of file ≡ Err r → statement_text file ≡ refusal_text r
  unfolding statement_of statement_text
  refused_text r e =
      ⊎_elim
      (λ w. w.2 ∙ ap refusal_text (same w.0 (sym w.1 ∙ e)))
      (λ w. absurd (never (sym w.0 ∙ e)))
      (first_two Err (answer file) refusal_text (stated_text (lines_of file (records_in file)) (records_in file)) (faults file))
    where
      same : (q : Refusal) → ◌≡◌ {A = Result Statement Refusal} (Err q) (Err r) → q ≡ r
      same q p = cc

      never : answer file ≡ Err r → ⊥
      never p = cc

  pub stated_text_lem : (s : Statement) → statement_of file ≡ Ok s
      → (statement_of file ≡ answer file) × (statement_text file ≡ stated_text (lines_of file (records_in file)) (records_in file))
  unfolding statement_of statement_text
  stated_text_lem s e =
      ⊎_elim
      (λ w. absurd (never w.0 (sym w.1 ∙ e)))
      (λ w. w)
      (first_two Err (answer file) refusal_text (stated_text (lines_of file (records_in file)) (records_in file)) (faults file))
    where
      never : (r : Refusal) → ◌≡◌ {A = Result Statement Refusal} (Err r) (Ok s) → ⊥
      never r p = cc

  -- the statement of a file is that of its lines
  held : (s : Statement) → statement_of file ≡ Ok s → s ≡ stated (lines_of file (records_in file)) (records_in file)
  held s e = same (sym e ∙ (stated_text_lem s e).0)
    where
      same : ◌≡◌ {A = Result Statement Refusal} (Ok s) (Ok (stated (lines_of file (records_in file)) (records_in file))) → s ≡ stated (lines_of file (records_in file)) (records_in file)
      same p = cc

  -- the text of a statement as the code has it
  abbrev held_text_lem : Statement → List ℕ
  held_text_lem s = lines_text (take s.known s.lines) ++ total_text s.total

  pub held_text : (s : Statement) → statement_of file ≡ Ok s → held_text_lem s ≡ statement_text file
  held_text s e =
      ap held_text_lem (held s e)
      ∙ ap (λ (ls : List Line). lines_text ls ++ total_text (records_in file)) (lines_held (lines_of file (records_in file)))
      ∙ sym (stated_text_lem s e).1

  -- the text of a statement of these lines
  pub text_of : (lines : List Line) (total : ℕ) → statement_of file ≡ Ok (stated lines total) → statement_text file ≡ stated_text lines total
  text_of lines total e =
      sym (held_text (stated lines total) e) ∙ ap (λ (ls : List Line). lines_text ls ++ total_text total) (lines_held lines)

  -- it has no more lines than there are places
  pub held_few : (s : Statement) → statement_of file ≡ Ok s → s.known ≤ supplier_limit
  held_few s e =
      omega (
        arith,
        ap (λ (t : Statement). t.known) (held s e),
        length-map (suppliers_of file (records_in file)) (line_of file (records_in file)),
        (stated_only file (ap outcome_number e)).sound.few,
      )

  -- what the program prints, by the length of its input
  pub program_text_lem : (b : Bool) → ltb input_limit (length file) ≡ b → program_text file ≡ cond b (refusal_text InputTooLong) (statement_text file)
  unfolding program_text
  program_text_lem b e = ap (λ (t : Bool). cond t (refusal_text InputTooLong) (statement_text file)) e
