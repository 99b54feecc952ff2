-- What the plan replies is the text of the definitions: through the index that it leaves a run is that without one; its table is the opening's; and a question
-- asked as it stands is a plain one. Assumes nothing.
use Rattle.std.proofs.Common.{Ok, Err}
use mathlib.Core.Path.{◌≡◌, refl, sym, ap, ap₂, ◌∙◌}
use mathlib.Core.Bool.{Bool, true, false, cond, ◌||◌}
use mathlib.Core.List.{List, [], ◌∷◌}
use Prim.Native.Nat.{ℕ, zero, suc}
use lib.Dec.{eqb, ltb}
use lib.IntN.{ℤ}
use lib.ListN.{length}
use Rattle.refusal.specs.declared.Refusal.{Refusal}
use Rattle.refusal.specs.declared.Refusal.TheVariants.{InputTooLong}
use Rattle.streams.specs.Input.{input_limit}
use Rattle.daf.specs.declared.Family.TheVariants.{Spk}
use Rattle.frame.specs.Frame.{Matrix}
use Rattle.segment.specs.declared.Segment.{Segment}
use Rattle.segment.specs.Evaluating.{evaluated}
use Rattle.table.specs.Places.{lent_limit}
use Rattle.chain.specs.Step.{Evaluation}
use Rattle.spk.specs.declared.Answer.{Answer}
use Rattle.spk.specs.Choosing.{Memory}
use Rattle.std.proofs.Common.{Option, Some, None}
use Rattle.spk.specs.Asking as asking
use Rattle.spk.specs.Runs.{Asking, Plain, InFrame, run}
use Rattle.indexed.specs.Opening.{indexed_by}
use Rattle.indexed.proofs.Asking.{no_index_run}
use Rattle.indexed.proofs.Opening.{planned_right}
use Rattle.lines.specs.Text.{refusal_text}
use Rattle.admission.specs.Order.{too_long, any_too_long, matrix_size, run_plan, plan_for}
use Rattle.admission.proofs.Ways.{plan_replies, table_of_plan, plan_printed}
use Rattle.ask_text.specs.Records.{question_size, question_mark, question_at, rows_of}
use Rattle.ask_text.specs.FrameText.{frame_named, frame_number}
use Rattle.ask_text.specs.Text.{askings_from, questions_in, answers_text, table_in, count_in, answers_of, ask_text, unfit, ask_output}
use Rattle.ask_text.specs.Steps.{turned_from, table_by, answers_by, planned_text}
use Rattle.opening.specs.declared.Filling.{Filling}
use Rattle.opening.specs.Steps.{Plan}

-- ---- through the index that a plan left
pub without_index : (kernel asked : List ℕ) (x : Filling) (ix : List ℕ) (wanted : Option ℤ) (rot : Matrix)
    → answers_text 0 (answers_by kernel asked (Ok x) ix wanted rot (questions_in asked)) ≡ planned_text kernel asked (Ok x) wanted rot
unfolding planned_text
without_index kernel asked x ix wanted rot =
    let segs = table_by kernel (Ok x) in
    ap (answers_text 0) (no_index_run lent_limit (evaluated Spk kernel) segs x.count (indexed_by (Ok x) segs ix) (planned_right x segs ix) None (turned_from wanted rot asked 0 (questions_in asked)))

-- ---- what is asked
module _ (limit : ℕ) (ev : Evaluation) (segs : List Segment) (n : ℕ) (asked matrix : List ℕ) (frame : ℤ) where
  -- without a matrix each question is asked as it stands, which turns nothing
  plainly : (rot : Matrix) → eqb (length matrix) matrix_size ≡ false → (m : Memory) (i many : ℕ)
      → run limit ev segs n m (turned_from None rot asked i many) ≡ run limit ev segs n m (askings_from asked matrix frame i many)
  unfolding run turned_from askings_from
  plainly rot e m i zero = refl
  plainly rot e m i (suc many) =
      let now = asking.asked limit ev segs n m (question_at asked i) in
      ap (λ (l : List Answer). now.answer ∷ l) (plainly rot e now.memory (suc i) many)
      ∙ ap (λ (b : Bool). run limit ev segs n m (cond b (InFrame (question_at asked i) (Some frame) (rows_of matrix)) (Plain (question_at asked i)) ∷ askings_from asked matrix frame (suc i) many)) (sym e)

-- with one, in the frame
turned : (asked matrix : List ℕ) (frame : ℤ) → eqb (length matrix) matrix_size ≡ true → (i many : ℕ) → turned_from (Some frame) (rows_of matrix) asked i many ≡ askings_from asked matrix frame i many
unfolding turned_from askings_from
turned asked matrix frame e i zero = refl
turned asked matrix frame e i (suc many) =
    ap₂ (λ (a : Asking) (l : List Asking). a ∷ l)
    (ap (λ (b : Bool). cond b (InFrame (question_at asked i) (Some frame) (rows_of matrix)) (Plain (question_at asked i))) (sym e)) (turned asked matrix frame e (suc i) many)

-- ---- the text
module _ (kernel asked matrix : List ℕ) (frame : ℤ) (wanted : Option ℤ) (rot : Matrix) where
  abbrev ask_all : List Segment → List Answer
  ask_all segs = run lent_limit (evaluated Spk kernel) segs (count_in kernel) None (turned_from wanted rot asked 0 (questions_in asked))

  by_plan : ask_all (table_in kernel) ≡ answers_of kernel asked matrix frame
      → planned_text kernel asked (run_plan Spk lent_limit question_size question_mark kernel asked) wanted rot ≡ ask_text kernel asked matrix frame
  unfolding ask_text planned_text table_in
  by_plan same =
      plan_replies Spk lent_limit question_size question_mark kernel asked refusal_text (answers_text 0 (answers_of kernel asked matrix frame)) (λ (p : Plan). planned_text kernel asked p wanted rot) (λ r. refl)
      (λ none. ap (λ (segs : List Segment). answers_text 0 (ask_all segs)) (table_of_plan Spk lent_limit kernel none) ∙ ap (answers_text 0) same)

pub turned_text_lem : (kernel asked matrix : List ℕ) (frame : ℤ) → eqb (length matrix) matrix_size ≡ true
    → planned_text kernel asked (run_plan Spk lent_limit question_size question_mark kernel asked) (Some frame) (rows_of matrix) ≡ ask_text kernel asked matrix frame
turned_text_lem kernel asked matrix frame e =
    by_plan kernel asked matrix frame (Some frame) (rows_of matrix)
    (ap (run lent_limit (evaluated Spk kernel) (table_in kernel) (count_in kernel) None) (turned asked matrix frame e 0 (questions_in asked)))

pub plain_text : (kernel asked matrix : List ℕ) (frame : ℤ) (rot : Matrix) → eqb (length matrix) matrix_size ≡ false
    → planned_text kernel asked (run_plan Spk lent_limit question_size question_mark kernel asked) None rot ≡ ask_text kernel asked matrix frame
plain_text kernel asked matrix frame rot e =
    by_plan kernel asked matrix frame None rot (plainly lent_limit (evaluated Spk kernel) (table_in kernel) (count_in kernel) asked matrix frame rot e None 0 (questions_in asked))

-- ---- 18 before it, then a matrix file or a FRAME that is none
module _ (kernel asked : List ℕ) (turned : Bool) (matrix frame : List ℕ) where
  pub output_long : any_too_long kernel asked matrix ≡ true → ask_output kernel asked turned matrix frame ≡ refusal_text InputTooLong
  unfolding ask_output
  output_long e = rw e

  pub output_short : (b : Bool) → any_too_long kernel asked matrix ≡ false → unfit turned matrix (frame_named frame) ≡ b
      → ask_output kernel asked turned matrix frame ≡ cond b [] (ask_text kernel asked matrix (frame_number (frame_named frame)))
  unfolding ask_output
  output_short b e f = rw (e, f)

-- ---- the exactly_when theorems of `admission` are about the plan with 18 before it: where it refuses, the output is its refusal's line alone
module _ (kernel asked : List ℕ) (turned : Bool) (matrix frame : List ℕ) where
  abbrev printed : Plan → List ℕ
  printed (Err r) = refusal_text r
  printed (Ok p) = answers_text 0 (answers_of kernel asked matrix (frame_number (frame_named frame)))

  -- a matrix file that is too long is 18 (`matrix_18`), and with one that is none, or a FRAME, nothing is printed
  module _ (fits : ltb input_limit (length matrix) ≡ false) (fit : unfit turned matrix (frame_named frame) ≡ false) where
    output_printed : ask_output kernel asked turned matrix frame ≡ printed (plan_for Spk lent_limit question_size question_mark kernel asked)
    unfolding ask_output ask_text
    output_printed =
        ap₂ (λ (b u : Bool). cond (b || too_long kernel asked) (refusal_text InputTooLong) (cond u [] (ask_text kernel asked matrix (frame_number (frame_named frame))))) fits fit
        ∙ plan_printed Spk lent_limit question_size question_mark kernel asked printed

    -- THEOREM: the line of the refusal that the plan gives, alone
    pub output_refused : (r : Refusal) → plan_for Spk lent_limit question_size question_mark kernel asked ≡ Err r → ask_output kernel asked turned matrix frame ≡ refusal_text r
    output_refused r e = output_printed ∙ ap printed e

    -- THEOREM: where it fills, a line for each answer
    pub output_answered : (x : Filling) → plan_for Spk lent_limit question_size question_mark kernel asked ≡ Ok x → ask_output kernel asked turned matrix frame ≡ answers_text 0 (answers_of kernel asked matrix (frame_number (frame_named frame)))
    output_answered x e = output_printed ∙ ap printed e
