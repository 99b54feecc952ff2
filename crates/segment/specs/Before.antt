-- The evaluation of a segment as it was defined before it said whether a record was stretched, for one statement alone: that state and refusal are those
-- of then (`Before` in `proofs`). Its cases and its state are those of `Evaluating`. Assumes nothing: these are definitions.
use Rattle.std.specs.Prelude.{ℕ, List, nat_abs, Float, Result, Ok, Err}
use Rattle.refusal.specs.declared.Refusal.{Refusal}
use Rattle.refusal.specs.Order.{first_of}
use Rattle.frame.specs.declared.State.{State}
use Rattle.daf.specs.declared.Family.{Family}
use Rattle.segment.specs.Evaluating.{state_at, cases}
use Rattle.segment.specs.declared.Segment.{Segment}
use Rattle.segment.specs.declared.Valued.{Valued}

-- A state or a refusal.
pub data OldEvaluated : Type 0 where
  Gives : State → OldEvaluated
  Refuses : Refusal → OldEvaluated

-- The evaluation at et of segment number i.
unfoldable pub old_evaluated : Family → List ℕ → Segment → ℕ → Float → OldEvaluated
old_evaluated f k s i et = first_of (cases f k s i et) Refuses (Gives (state_at k (nat_abs s.start) s.kind et))

-- An evaluation, the word left out.
abbrev pub bare_evaluated : Result Valued Refusal → OldEvaluated
bare_evaluated (Ok v) = Gives v.state
bare_evaluated (Err r) = Refuses r
