-- What the small functions of the code do; no promise of an entry point needs these. Assumes nothing: these are definitions.
use Rattle.std.specs.Prelude.{ℕ, zero, suc, List, [], ◌∷◌, Ok, Err, ℤ, Option, None}
use Rattle.daf.specs.declared.Family.TheVariants.{Spk}
use Rattle.frame.specs.Frame.{Matrix}
use Rattle.segment.specs.declared.Segment.{Segment}
use Rattle.segment.specs.Evaluating.{evaluated}
use Rattle.table.specs.Places.{lent_limit, empty_places}
use Rattle.opening.specs.Steps.{Plan, count_in, carried_out}
use Rattle.spk.specs.declared.Answer.{Answer}
use Rattle.spk.specs.Runs.{Asking, InFrame, run}
use Rattle.indexed.specs.Asking.{run_with}
use Rattle.indexed.specs.Opening.{indexed_by}
use Rattle.lines.specs.Text.{refusal_text}
use Rattle.ask_text.specs.Records.{question_at}
use Rattle.ask_text.specs.Text.{questions_in, answers_text}

-- n questions of a file from number i on, each asked in this frame, or as it stands.
unfoldable pub turned_from : Option ℤ → Matrix → List ℕ → ℕ → ℕ → List Asking
turned_from wanted rot asked i zero = []
turned_from wanted rot asked i (suc n) = InFrame (question_at asked i) wanted rot ∷ turned_from wanted rot asked (suc i) n

-- The table that a plan leaves in 4,096 places.
abbrev pub table_by : List ℕ → Plan → List Segment
table_by kernel p = carried_out Spk kernel p (empty_places lent_limit)

-- The answers to the first m questions through the index that a plan leaves.
abbrev pub answers_by : List ℕ → List ℕ → Plan → List ℕ → Option ℤ → Matrix → ℕ → List Answer
answers_by kernel asked p ix wanted rot m =
    run_with lent_limit (evaluated Spk kernel) (table_by kernel p) (count_in p) (indexed_by p (table_by kernel p) ix) None (turned_from wanted rot asked 0 m)

-- What a plan replies to a file of questions: the line of its refusal, or a line each.
unfoldable pub planned_text : List ℕ → List ℕ → Plan → Option ℤ → Matrix → List ℕ
planned_text kernel asked (Err r) wanted rot = refusal_text r
planned_text kernel asked (Ok p) wanted rot =
    answers_text 0 (run lent_limit (evaluated Spk kernel) (table_by kernel (Ok p)) p.count None (turned_from wanted rot asked 0 (questions_in asked)))
