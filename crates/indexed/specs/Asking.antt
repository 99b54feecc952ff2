-- Questions through an index, whatever this holds. Assumes nothing: these are definitions.
use Rattle.std.specs.Prelude.{ℕ, cond, List, [], ◌∷◌, ℤ, Option}
use Rattle.frame.specs.Frame.{Matrix}
use Rattle.segment.specs.declared.Segment.{Segment}
use Rattle.std.specs.Option.{option_or}
use Rattle.index.specs.Visiting.{last_by}
use Rattle.index.specs.Parts.{last_of, below_of, first_of, above_of, has_room}
use Rattle.std.specs.Prelude.{Result}
use Rattle.frame.specs.declared.Given.{Given}
use Rattle.refusal.specs.declared.Refusal.{Refusal}
use Rattle.chain.specs.Step.{Evaluation}
use Rattle.spk.specs.declared.Question.{Question}
use Rattle.spk.specs.declared.Answer.{Answer}
use Rattle.spk.specs.declared.Asked.{Asked}
use Rattle.spk.specs.Questions.{hits, swapped}
use Rattle.spk.specs.Choosing.{Memory, recall}
use Rattle.spk.specs.Answers.{difference_of}
use Rattle.spk.specs.Asking.{Found, leg_from, asked}
use Rattle.spk.specs.Steps.{early, early_or, back_or, chosen_or}
use Rattle.spk.specs.Turning.{turned_asked}
use Rattle.spk.specs.Alone.{alone_answer}
use Rattle.spk.specs.Runs.{Asking, Plain, InFrame, Single}
use Rattle.chain.specs.Walked.{to_zero_by}
use Rattle.indexed.specs.Stepping.{step_by}

-- The last covering segment of a question's pair that the walk down the index finds.
abbrev pub last_found : List Segment → ℕ → List ℕ → Question → Option ℕ
last_found segs n ix q = last_by (hits q) segs n (last_of ix) (below_of ix) q.target

-- Forward: the remembered segment, else the last that the walk finds.
unfoldable pub forward_found : List Segment → ℕ → List ℕ → Memory → Question → Option ℕ
forward_found segs n ix m q = option_or (recall segs n m q) (last_found segs n ix q)

-- The chain, each step up the index.
unfoldable pub chained_by : Evaluation → List Segment → ℕ → List ℕ → Question → Result Given Refusal
chained_by ev segs n ix q =
    let step = step_by ev segs n (first_of ix) (above_of ix) in
    difference_of (to_zero_by step (leg_from q)) (to_zero_by step (leg_from (swapped q)))

-- What there is backward.
unfoldable pub backward_by : Evaluation → List Segment → ℕ → List ℕ → Question → Found
backward_by ev segs n ix q = back_or ev segs q (chained_by ev segs n ix q) (last_found segs n ix (swapped q))

-- What a forward choice results in, and what is remembered after it.
abbrev pub chosen_asked : Evaluation → List Segment → ℕ → List ℕ → Memory → Question → Option ℕ → Asked
chosen_asked ev segs n ix m q c = chosen_or ev segs m q (backward_by ev segs n ix q) c

-- A question through the index: the tests before the choice, which are those without an index; then the choice.
unfoldable pub asked_through : ℕ → Evaluation → List Segment → ℕ → List ℕ → Memory → Question → Asked
asked_through limit ev segs n ix m q =
    early_or (early limit n q) m (chosen_asked ev segs n ix m q (forward_found segs n ix m q))

-- A question with a memory and an index: through the index, and without it where it has no room for the table.
unfoldable pub asked_with : ℕ → Evaluation → List Segment → ℕ → List ℕ → Memory → Question → Asked
asked_with limit ev segs n ix m q = cond (has_room n ix) (asked_through limit ev segs n ix m q) (asked limit ev segs n m q)

-- A question in a frame, with an index.
abbrev pub asked_in_with : ℕ → Evaluation → List Segment → ℕ → List ℕ → Memory → Question → Option ℤ → Matrix → Asked
asked_in_with limit ev segs n ix m q wanted rot = turned_asked wanted rot (asked_with limit ev segs n ix m q)

-- The answer with a memory and an index, of every kind, as `replied` has it with a memory alone.
abbrev pub replied_with : ℕ → Evaluation → List Segment → ℕ → List ℕ → Memory → Asking → Asked
replied_with limit ev segs n ix m (Plain q) = asked_with limit ev segs n ix m q
replied_with limit ev segs n ix m (InFrame q wanted rot) = asked_in_with limit ev segs n ix m q wanted rot
replied_with limit ev segs n ix m (Single i et) = record { answer = alone_answer limit ev segs n i et; memory = m }

-- A run of questions with an index: the memory goes from each question to the next.
unfoldable pub run_with : ℕ → Evaluation → List Segment → ℕ → List ℕ → Memory → List Asking → List Answer
run_with limit ev segs n ix m [] = []
run_with limit ev segs n ix m (a ∷ rest) =
    let now = replied_with limit ev segs n ix m a in
    now.answer ∷ run_with limit ev segs n ix now.memory rest
