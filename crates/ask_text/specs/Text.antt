-- The whole output of `ask`, as a list of ASCII codes: RULES, "Programs".
use Rattle.std.specs.Prelude.{ℕ, zero, suc, ◌/◌, Bool, cond, not, ◌&&◌, ◌||◌, List, [], ◌∷◌, ◌++◌, eqb, ℤ, length, Some, None, Option, is_none}
use Rattle.refusal.specs.declared.Refusal.TheVariants.{InputTooLong}
use Rattle.refusal.specs.Order.{Case, case, first_of}
use Rattle.daf.specs.declared.Family.TheVariants.{Spk}
use Rattle.segment.specs.declared.Segment.{Segment}
use Rattle.segment.specs.Evaluating.{evaluated}
use Rattle.table.specs.Places.{lent_limit, empty_places}
use Rattle.opening.specs.Opening.{places_of}
use Rattle.opening.specs.Lent.{table_after}
use Rattle.spk.specs.declared.Answer.{Answer}
use Rattle.spk.specs.Runs.{Asking, Plain, InFrame, run}
use Rattle.lines.specs.Text.{refusal_text}
use Rattle.lines.specs.Room.{text_room}
use Rattle.admission.specs.Order.{any_too_long, matrix_size, cases_of}
use Rattle.ask_text.specs.Records.{question_size, question_mark, question_at, rows_of}
use Rattle.ask_text.specs.Lines.{answer_text, answer_room}
use Rattle.ask_text.specs.FrameText.{frame_named, frame_number}

-- Question i of a file, as it is asked: in the frame of this number with a matrix file of 72 bytes, else as it stands.
abbrev pub asking_at : List ℕ → List ℕ → ℤ → ℕ → Asking
asking_at asked matrix frame i = cond (eqb (length matrix) matrix_size) (InFrame (question_at asked i) (Some frame) (rows_of matrix)) (Plain (question_at asked i))

-- n questions of a file from number i on.
unfoldable pub askings_from : List ℕ → List ℕ → ℤ → ℕ → ℕ → List Asking
askings_from asked matrix frame i zero = []
askings_from asked matrix frame i (suc n) = asking_at asked matrix frame i ∷ askings_from asked matrix frame (suc i) n

-- How many questions a file has, and all of them.
abbrev pub questions_in : List ℕ → ℕ
questions_in asked = length asked / question_size

abbrev pub askings : List ℕ → List ℕ → ℤ → List Asking
askings asked matrix frame = askings_from asked matrix frame 0 (questions_in asked)

-- The lines of answers, numbered from i on.
unfoldable pub answers_text : ℕ → List Answer → List ℕ
answers_text i [] = []
answers_text i (a ∷ rest) = answer_text i a ++ answers_text (suc i) rest

-- The table that the kernel's opening leaves in 4,096 places, and how many segments it has.
unfoldable pub table_in : List ℕ → List Segment
table_in kernel = table_after Spk lent_limit kernel (empty_places lent_limit)

abbrev pub count_in : List ℕ → ℕ
count_in kernel = length (places_of kernel)

-- The answers to the questions in their order, the memory going from each to the next. Nothing is remembered before the first.
abbrev pub answers_of : List ℕ → List ℕ → List ℕ → ℤ → List Answer
answers_of kernel asked matrix frame = run lent_limit (evaluated Spk kernel) (table_in kernel) (count_in kernel) None (askings asked matrix frame)

-- The refusals of the whole run: the opening's 1 to 9, then 19.
abbrev pub run_cases : List ℕ → List ℕ → List Case
run_cases kernel asked = cases_of Spk lent_limit question_size question_mark kernel asked

-- What a kernel replies to a file of questions: the line of the first refusal that holds alone, or a line for each answer.
unfoldable pub ask_text : List ℕ → List ℕ → List ℕ → ℤ → List ℕ
ask_text kernel asked matrix frame = first_of (run_cases kernel asked) refusal_text (answers_text 0 (answers_of kernel asked matrix frame))

-- A matrix file is given (`turned`), and it is none, since it has another length than 72 bytes, or FRAME is no number.
abbrev pub unfit : Bool → List ℕ → Option ℤ → Bool
unfit turned matrix frame = turned && (not (eqb (length matrix) matrix_size) || is_none frame)

-- What is printed where no file is too long: nothing, where a matrix file is given and it or FRAME is none; else that text.
abbrev pub short_output : List ℕ → List ℕ → Bool → List ℕ → Option ℤ → List ℕ
short_output kernel asked turned matrix frame = cond (unfit turned matrix frame) [] (ask_text kernel asked matrix (frame_number frame))

-- What the program prints, `frame` being the text of FRAME: 18 of any of its files comes first.
unfoldable pub ask_output : List ℕ → List ℕ → Bool → List ℕ → List ℕ → List ℕ
ask_output kernel asked turned matrix frame =
    first_of (case (any_too_long kernel asked matrix) InputTooLong ∷ []) refusal_text (short_output kernel asked turned matrix (frame_named frame))

-- Room for every reply to a file of so many bytes: a line for each question, or a refusal's.
abbrev pub ask_room : ℕ → ℕ
ask_room bytes = text_room answer_room (bytes / question_size)
