-- The order of a question: RULES, "Questions to an SPK". Assumes nothing: these are definitions.
-- Everything is over an evaluation of segments (`evaluated Spk k` for a kernel k), the list of segments, their count and the table's limit.
use Rattle.std.specs.Prelude.{ℕ, cond, List, [], ◌∷◌, ltb, Option, Some, None}
use Rattle.std.specs.Float.Ieee.{is_nan}
use Rattle.frame.specs.Given.{nothing_given}
use Rattle.refusal.specs.declared.Refusal.TheVariants.{TableUnfit, EpochNan}
use Rattle.refusal.specs.Order.{case, first_of}
use Rattle.segment.specs.declared.Segment.{Segment}
use Rattle.std.specs.Prelude.{Result}
use Rattle.refusal.specs.declared.Refusal.{Refusal}
use Rattle.segment.specs.declared.Valued.{Valued}
use Rattle.table.specs.Segments.{seg}
use Rattle.chain.specs.declared.Leg.{Leg}
use Rattle.frame.specs.declared.Given.{Given}
use Rattle.chain.specs.Step.{Evaluation, yield_of}
use Rattle.chain.specs.Walk.{to_zero}
use Rattle.spk.specs.declared.Question.{Question}
use Rattle.spk.specs.declared.Way.{Way}
use Rattle.spk.specs.declared.Way.TheVariants.{Forward, Reversed, Chained}
use Rattle.spk.specs.declared.Answer.{Answer}
use Rattle.spk.specs.declared.Asked.{Asked}
use Rattle.spk.specs.Questions.{is_same, swapped}
use Rattle.spk.specs.Choosing.{Memory, last_reversed, forward_in, remembered}
use Rattle.spk.specs.Answers.{refused_answer, same_answer, settled, negated_of, difference_of}

-- The walk of a question's target to body 0 starts with the sum +0.
abbrev pub leg_from : Question → Leg
leg_from q = record { start = q.target; body = q.target; et = q.et; total = nothing_given }

-- The chain: target's state to body 0, then center's, subtracted.
unfoldable pub chained : Evaluation → List Segment → ℕ → Question → Result Given Refusal
chained ev segs n q = difference_of (to_zero ev segs n (leg_from q)) (to_zero ev segs n (leg_from (swapped q)))

-- A segment evaluated for a question.
abbrev pub evaluated_at : Evaluation → List Segment → Question → ℕ → Result Valued Refusal
evaluated_at ev segs q i = ev (seg segs i) i q.et

-- What it gives: the state, in the segment's frame.
abbrev pub given_at : Evaluation → List Segment → Question → ℕ → Result Given Refusal
given_at ev segs q i = yield_of (seg segs i) (evaluated_at ev segs q i)

-- What a question results in before 15: by which way, and what was given.
pub record Found : Type 0 where
  pub way : Way
  pub result : Result Given Refusal

-- Reversed, all six negated; else chained.
abbrev pub backward : Evaluation → List Segment → ℕ → Question → Option ℕ → Found
backward ev segs n q (Some i) = record { way = Reversed i; result = negated_of (given_at ev segs q i) }
backward ev segs n q None = record { way = Chained; result = chained ev segs n q }

-- The forward choice; else what there is backward.
abbrev pub found_by : Evaluation → List Segment → ℕ → Question → Option ℕ → Found
found_by ev segs n q (Some i) = record { way = Forward i; result = given_at ev segs q i }
found_by ev segs n q None = backward ev segs n q (last_reversed segs n q)

-- Last 15.
abbrev pub answer_to : Found → Answer
answer_to f = settled f.way f.result

-- The order, for a forward choice: target equals center; a count over the limit (14); an epoch that is NaN (10); the choice.
unfoldable pub asked_by : ℕ → Evaluation → List Segment → ℕ → Memory → Question → Option ℕ → Asked
asked_by limit ev segs n m q c =
    cond (is_same q) (record { answer = same_answer; memory = m })
    (first_of (case (ltb limit n) TableUnfit ∷ case (is_nan q.et) EpochNan ∷ [])
    (λ r. record { answer = refused_answer r; memory = m })
    (record { answer = answer_to (found_by ev segs n q c); memory = remembered segs m c }))

-- A question with a memory: the answer, and what is remembered after it.
abbrev pub asked : ℕ → Evaluation → List Segment → ℕ → Memory → Question → Asked
asked limit ev segs n m q = asked_by limit ev segs n m q (forward_in segs n m q)
