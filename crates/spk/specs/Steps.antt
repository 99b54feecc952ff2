-- What a question goes by: the definitions of `Asking`, with the segments that were found handed in. Assumes nothing: these are definitions.
use Rattle.std.specs.Prelude.{ℕ, cond, List, Option, Some, None, option_map, Result}
use Rattle.std.specs.Option.{option_or}
use Rattle.std.specs.Result.{result_err}
use Rattle.frame.specs.declared.Given.{Given}
use Rattle.refusal.specs.declared.Refusal.{Refusal}
use Rattle.segment.specs.declared.Segment.{Segment}
use Rattle.table.specs.Steps.{ready}
use Rattle.spk.specs.declared.Question.{Question}
use Rattle.spk.specs.declared.Answer.{Answer}
use Rattle.spk.specs.declared.Asked.{Asked}
use Rattle.chain.specs.Step.{Evaluation}
use Rattle.spk.specs.declared.Way.TheVariants.{Forward, Reversed, Chained}
use Rattle.spk.specs.Questions.{is_same, swapped}
use Rattle.spk.specs.Choosing.{Memory, recall, remembered}
use Rattle.spk.specs.Answers.{refused_answer, same_answer, negated_of}
use Rattle.spk.specs.Asking.{Found, given_at, answer_to}

-- What the tests before the choice answer, in `asked_by`'s order: target equals center, then 14, then 10; none where no test decides.
unfoldable pub early : ℕ → ℕ → Question → Option Answer
early limit n q = cond (is_same q) (Some same_answer) (option_map refused_answer (result_err (ready limit n q.et)))

-- That answer, the memory staying; else what is asked.
abbrev pub early_or : Option Answer → Memory → Asked → Asked
early_or (Some a) m asked = record { answer = a; memory = m }
early_or None m asked = asked

-- Reversed, all six negated; else what the chain resulted in.
abbrev pub back_or : Evaluation → List Segment → Question → Result Given Refusal → Option ℕ → Found
back_or ev segs q chain (Some i) = record { way = Reversed i; result = negated_of (given_at ev segs q i) }
back_or ev segs q chain None = record { way = Chained; result = chain }

-- The forward choice; else what there is backward.
abbrev pub ahead_or : Evaluation → List Segment → Question → Found → Option ℕ → Found
ahead_or ev segs q back (Some i) = record { way = Forward i; result = given_at ev segs q i }
ahead_or ev segs q back None = back

-- What a forward choice results in, and what is remembered after it.
abbrev pub chosen_or : Evaluation → List Segment → Memory → Question → Found → Option ℕ → Asked
chosen_or ev segs m q back c = record { answer = answer_to (ahead_or ev segs q back c); memory = remembered segs m c }

-- A question, with what finds the last covering segment of a pair and what gives the chain handed in: the tests before the choice; the remembered
-- segment, else the last that is found; else the last of the swapped pair; else the chain.
unfoldable pub asked_from : ℕ → Evaluation → List Segment → ℕ → Memory → Question → (Question → Option ℕ) → (Question → Result Given Refusal) → Asked
asked_from limit ev segs n m q last chain =
    early_or (early limit n q) m (chosen_or ev segs m q (back_or ev segs q (chain q) (last (swapped q))) (option_or (recall segs n m q) (last q)))
