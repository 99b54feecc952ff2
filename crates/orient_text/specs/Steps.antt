-- What the small functions of the code do; no promise of an entry point needs these. Assumes nothing: these are definitions.
use Rattle.std.specs.Prelude.{ℕ, zero, suc, List, [], ◌++◌, Ok, Err}
use Rattle.daf.specs.declared.Family.TheVariants.{Pck}
use Rattle.segment.specs.declared.Segment.{Segment}
use Rattle.table.specs.Places.{lent_limit, empty_places}
use Rattle.opening.specs.Steps.{Plan, count_in, carried_out}
use Rattle.pck.specs.declared.Question.{Question}
use Rattle.pck.specs.declared.Oriented.{Oriented}
use Rattle.pck.specs.Orienting.{oriented}
use Rattle.indexed.specs.Orienting.{oriented_with}
use Rattle.indexed.specs.Opening.{indexed_by}
use Rattle.lines.specs.Text.{refusal_text}
use Rattle.orient_text.specs.Records.{question_at}
use Rattle.orient_text.specs.Lines.{oriented_text}
use Rattle.orient_text.specs.Text.{questions_in}

-- The lines of n questions of a file from number i on, each answered so.
unfoldable pub lines_of : (Question → Oriented) → List ℕ → ℕ → ℕ → List ℕ
lines_of answer asked i zero = []
lines_of answer asked i (suc n) = oriented_text i (answer (question_at asked i)) ++ lines_of answer asked (suc i) n

-- Answered through an index.
abbrev pub orientations_by : ℕ → List ℕ → List Segment → ℕ → List ℕ → List ℕ → ℕ → ℕ → List ℕ
orientations_by limit kernel segs n ix asked i many = lines_of (oriented_with limit kernel segs n ix) asked i many

-- The table that a plan leaves in 4,096 places.
abbrev pub table_by : List ℕ → Plan → List Segment
table_by kernel p = carried_out Pck kernel p (empty_places lent_limit)

-- The lines of the first m questions through the index that a plan leaves.
abbrev pub lines_by : List ℕ → List ℕ → Plan → List ℕ → ℕ → List ℕ
lines_by kernel asked p ix m = orientations_by lent_limit kernel (table_by kernel p) (count_in p) (indexed_by p (table_by kernel p) ix) asked 0 m

-- What a plan replies to a file of questions: the line of its refusal, or a line each.
unfoldable pub planned_text : List ℕ → List ℕ → Plan → List ℕ
planned_text kernel asked (Err r) = refusal_text r
planned_text kernel asked (Ok p) = lines_of (oriented lent_limit kernel (table_by kernel (Ok p)) p.count) asked 0 (questions_in asked)
