-- The whole output of `orient`, as a list of ASCII codes: RULES, "Programs".
use Rattle.std.specs.Prelude.{ℕ, zero, suc, ◌/◌, List, [], ◌∷◌, ◌++◌, length}
use Rattle.refusal.specs.declared.Refusal.TheVariants.{InputTooLong}
use Rattle.refusal.specs.Order.{Case, case, first_of}
use Rattle.daf.specs.declared.Family.TheVariants.{Pck}
use Rattle.segment.specs.declared.Segment.{Segment}
use Rattle.table.specs.Places.{lent_limit, empty_places}
use Rattle.opening.specs.Opening.{places_of}
use Rattle.opening.specs.Lent.{table_after}
use Rattle.pck.specs.declared.Oriented.{Oriented}
use Rattle.pck.specs.Orienting.{oriented}
use Rattle.lines.specs.Text.{refusal_text}
use Rattle.lines.specs.Room.{text_room}
use Rattle.admission.specs.Order.{too_long, cases_of}
use Rattle.orient_text.specs.Records.{question_size, question_mark, question_at}
use Rattle.orient_text.specs.Lines.{oriented_text, oriented_room}

-- The table that the kernel's opening leaves in 4,096 places, and how many segments it has.
unfoldable pub table_in : List ℕ → List Segment
table_in kernel = table_after Pck lent_limit kernel (empty_places lent_limit)

abbrev pub count_in : List ℕ → ℕ
count_in kernel = length (places_of kernel)

-- How many questions a file has, and the orientation that answers question i.
abbrev pub questions_in : List ℕ → ℕ
questions_in asked = length asked / question_size

abbrev pub oriented_at : List ℕ → List ℕ → ℕ → Oriented
oriented_at kernel asked i = oriented lent_limit kernel (table_in kernel) (count_in kernel) (question_at asked i)

-- The lines of n orientations from number i on.
unfoldable pub orientations_from : List ℕ → List ℕ → ℕ → ℕ → List ℕ
orientations_from kernel asked i zero = []
orientations_from kernel asked i (suc n) = oriented_text i (oriented_at kernel asked i) ++ orientations_from kernel asked (suc i) n

-- The refusals of the whole run: the opening's 1 to 9, then 19.
abbrev pub run_cases : List ℕ → List ℕ → List Case
run_cases kernel asked = cases_of Pck lent_limit question_size question_mark kernel asked

-- What a kernel replies to a file of questions: the line of the first refusal that holds alone, or a line for each orientation.
unfoldable pub orient_text : List ℕ → List ℕ → List ℕ
orient_text kernel asked = first_of (run_cases kernel asked) refusal_text (orientations_from kernel asked 0 (questions_in asked))

-- What the program prints: 18 comes first.
unfoldable pub orient_output : List ℕ → List ℕ → List ℕ
orient_output kernel asked = first_of (case (too_long kernel asked) InputTooLong ∷ []) refusal_text (orient_text kernel asked)

-- Room for every reply to a file of so many bytes: a line for each question, or a refusal's.
abbrev pub orient_room : ℕ → ℕ
orient_room bytes = text_room oriented_room (bytes / question_size)
