-- The answer to a question as it was defined before a state said whether a record was stretched, for one statement alone: that way, state, frame and
-- memory are those of then (`Before` in `proofs`). It is that of `Answers`, `Asking`, `Turning` and `Alone`, with a state and its frame where those have
-- the word too. Assumes nothing: these are definitions.
use Rattle.std.specs.Prelude.{ℕ, cond, List, [], ◌∷◌, ltb, leb, ℤ, Float, Option, Some, None}
use Rattle.std.specs.Float.Ieee.{is_nan}
use Rattle.frame.specs.declared.Turn.{Turn}
use Rattle.frame.specs.declared.Turn.TheVariants.{Stands, Forth, Back, Never}
use Rattle.frame.specs.State.{zero_state, negated_state, minus_state, finite_state}
use Rattle.frame.specs.Frame.{Matrix, turned_state, transpose_of}
use Rattle.frame.specs.Framed.{j2000, joined, turn_of}
use Rattle.refusal.specs.declared.Refusal.{Refusal}
use Rattle.refusal.specs.declared.Refusal.TheVariants.{TableUnfit, EpochNan, NoSegment, NotFinite, OtherFrame}
use Rattle.refusal.specs.Order.{case, first_of}
use Rattle.segment.specs.declared.Segment.{Segment}
use Rattle.table.specs.Segments.{seg}
use Rattle.chain.specs.Before.{OldEvaluation, OldGiven, old_nothing, old_given_of, OldYielded, Gave, Refusing, old_yield_of, OldLeg, old_to_zero, bare_given}
use Rattle.spk.specs.declared.Question.{Question}
use Rattle.spk.specs.declared.Way.{Way}
use Rattle.spk.specs.declared.Way.TheVariants as ways
use Rattle.spk.specs.declared.Answer.{Answer}
use Rattle.spk.specs.declared.Asked.{Asked}
use Rattle.spk.specs.Questions.{is_same, swapped}
use Rattle.spk.specs.Choosing.{Memory, last_reversed, forward_in, remembered}
use Rattle.spk.specs.Turning.{is_refused}

-- An answer: its way, its six numbers and their frame.
pub record OldAnswer : Type 0 where
  pub way : Way
  pub given : OldGiven

-- With a memory: the answer, and what is remembered after it.
pub record OldAsked : Type 0 where
  pub answer : OldAnswer
  pub memory : Memory

-- With a refusal stand six zeros.
abbrev pub old_refused : Refusal → OldAnswer
old_refused r = record { way = ways.Refused r; given = old_nothing }

-- Target equals center.
abbrev pub old_same : OldAnswer
old_same = record { way = ways.Same; given = old_given_of zero_state j2000 }

-- Last, 15.
abbrev pub old_settled : Way → OldYielded → OldAnswer
old_settled way (Gave g) = cond (finite_state g.state) (record { way = way; given = g }) (old_refused NotFinite)
old_settled way (Refusing r) = old_refused r

-- All six negated.
abbrev pub old_negated : OldYielded → OldYielded
old_negated (Gave g) = Gave (record { state = negated_state g.state; frame = g.frame })
old_negated (Refusing r) = Refusing r

-- A state less what the center's walk ended with.
abbrev pub old_less : OldGiven → OldYielded → OldYielded
old_less a (Gave b) = Gave (record { state = minus_state a.state b.state; frame = joined a.frame b.frame })
old_less a (Refusing r) = Refusing r

-- The target's less the center's; the first refusal counts.
abbrev pub old_difference : OldYielded → OldYielded → OldYielded
old_difference (Gave a) e = old_less a e
old_difference (Refusing r) e = Refusing r

-- A walk starts with the sum +0.
abbrev pub old_leg_from : Question → OldLeg
old_leg_from q = record { start = q.target; body = q.target; et = q.et; total = old_nothing }

-- The chain.
abbrev pub old_chained : OldEvaluation → List Segment → ℕ → Question → OldYielded
old_chained ev segs n q = old_difference (old_to_zero ev segs n (old_leg_from q)) (old_to_zero ev segs n (old_leg_from (swapped q)))

-- What a segment gives.
abbrev pub old_given_at : OldEvaluation → List Segment → Question → ℕ → OldYielded
old_given_at ev segs q i = old_yield_of (seg segs i) (ev (seg segs i) i q.et)

-- Reversed, else chained.
abbrev pub old_backward : OldEvaluation → List Segment → ℕ → Question → Option ℕ → OldAnswer
old_backward ev segs n q (Some i) = old_settled (ways.Reversed i) (old_negated (old_given_at ev segs q i))
old_backward ev segs n q None = old_settled ways.Chained (old_chained ev segs n q)

-- Forward, else backward.
abbrev pub old_found : OldEvaluation → List Segment → ℕ → Question → Option ℕ → OldAnswer
old_found ev segs n q (Some i) = old_settled (ways.Forward i) (old_given_at ev segs q i)
old_found ev segs n q None = old_backward ev segs n q (last_reversed segs n q)

-- The tests in their order, then the choice.
abbrev pub old_asked_by : ℕ → OldEvaluation → List Segment → ℕ → Memory → Question → Option ℕ → OldAsked
old_asked_by limit ev segs n m q c =
    cond (is_same q) (record { answer = old_same; memory = m })
    (first_of (case (ltb limit n) TableUnfit ∷ case (is_nan q.et) EpochNan ∷ []) (λ r. record { answer = old_refused r; memory = m })
    (record { answer = old_found ev segs n q c; memory = remembered segs m c }))

-- A question.
abbrev pub old_asked : ℕ → OldEvaluation → List Segment → ℕ → Memory → Question → OldAsked
old_asked limit ev segs n m q = old_asked_by limit ev segs n m q (forward_in segs n m q)

-- The answer in a frame, by how it is turned.
abbrev pub old_turned_by : Turn → ℤ → Matrix → OldAnswer → OldAnswer
old_turned_by Stands to rot a = a
old_turned_by Forth to rot a = old_settled a.way (Gave (old_given_of (turned_state rot a.given.state) to))
old_turned_by Back to rot a = old_settled a.way (Gave (old_given_of (turned_state (transpose_of rot) a.given.state) to))
old_turned_by Never to rot a = old_refused OtherFrame

-- The state's refusal first; without a frame it is given as it stands.
abbrev pub old_turned : Option ℤ → Matrix → OldAnswer → OldAnswer
old_turned None rot a = a
old_turned (Some to) rot a = cond (is_refused a.way) a (old_turned_by (turn_of a.given.frame to) to rot a)

-- A question in a frame.
abbrev pub old_asked_in : ℕ → OldEvaluation → List Segment → ℕ → Memory → Question → Option ℤ → Matrix → OldAsked
old_asked_in limit ev segs n m q wanted rot =
    record { answer = old_turned wanted rot (old_asked limit ev segs n m q).answer; memory = (old_asked limit ev segs n m q).memory }

-- A segment alone.
abbrev pub old_alone : ℕ → OldEvaluation → List Segment → ℕ → ℕ → Float → OldAnswer
old_alone limit ev segs n i et =
    first_of (case (ltb limit n) TableUnfit ∷ case (is_nan et) EpochNan ∷ case (leb n i) NoSegment ∷ []) old_refused
    (old_settled (ways.Forward i) (old_yield_of (seg segs i) (ev (seg segs i) i et)))

-- ---- the word left out
abbrev pub bare_answer : Answer → OldAnswer
bare_answer a = record { way = a.way; given = bare_given a.given }

abbrev pub bare_asked : Asked → OldAsked
bare_asked a = record { answer = bare_answer a.answer; memory = a.memory }
