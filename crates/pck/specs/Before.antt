-- An orientation as it was defined before it said whether a record was stretched, for one statement alone: that outcome, reference frame and angles are
-- those of then (`Before` in `proofs`). It is that of `Orienting` and `Alone`, without the word. Assumes nothing: these are definitions.
use Rattle.std.specs.Prelude.{ℕ, cond, List, [], ◌∷◌, ltb, leb, ℤ, pos, Float, Option, Some, None, Result, Ok, Err}
use Rattle.std.specs.Float.Ieee.{is_nan}
use Rattle.refusal.specs.declared.Refusal.{Refusal}
use Rattle.refusal.specs.declared.Refusal.TheVariants.{TableUnfit, EpochNan, NoSegment, NotFinite}
use Rattle.refusal.specs.Order.{case, first_of}
use Rattle.frame.specs.declared.State.{State}
use Rattle.frame.specs.State.{zero_state, finite_state}
use Rattle.daf.specs.declared.Family.TheVariants.{Pck}
use Rattle.segment.specs.declared.Segment.{Segment}
use Rattle.segment.specs.Before.{OldEvaluated, Gives, Refuses, old_evaluated}
use Rattle.table.specs.Segments.{seg}
use Rattle.pck.specs.declared.Question.{Question}
use Rattle.pck.specs.declared.Oriented.{Oriented}
use Rattle.pck.specs.Orienting.{chosen, no_coverage}

-- How it ended, the reference frame, and the three angles with their rates.
pub record OldOriented : Type 0 where
  pub outcome : Result (Unit {0}) Refusal
  pub frame : ℤ
  pub angles : State

-- A refusal.
abbrev pub old_refused : Refusal → OldOriented
old_refused r = record { outcome = Err r; frame = pos 0; angles = zero_state }

-- The refusal, then 15, then the reference frame with the six numbers.
abbrev pub old_settled : Segment → OldEvaluated → OldOriented
old_settled s (Gives x) = cond (finite_state x) (record { outcome = Ok tt; frame = s.frame; angles = x }) (old_refused NotFinite)
old_settled s (Refuses r) = old_refused r

-- What a choice results in.
abbrev pub old_by : List ℕ → List Segment → Question → Option ℕ → OldOriented
old_by k segs q (Some i) = old_settled (seg segs i) (old_evaluated Pck k (seg segs i) i q.et)
old_by k segs q None = old_refused (no_coverage q)

-- The order.
abbrev pub old_oriented : ℕ → List ℕ → List Segment → ℕ → Question → OldOriented
old_oriented limit k segs n q =
    first_of (case (ltb limit n) TableUnfit ∷ case (is_nan q.et) EpochNan ∷ []) old_refused (old_by k segs q (chosen segs n q))

-- A segment alone.
abbrev pub old_alone : ℕ → List ℕ → List Segment → ℕ → ℕ → Float → OldOriented
old_alone limit k segs n i et =
    first_of (case (ltb limit n) TableUnfit ∷ case (is_nan et) EpochNan ∷ case (leb n i) NoSegment ∷ []) old_refused (old_settled (seg segs i) (old_evaluated Pck k (seg segs i) i et))

-- ---- the word left out
abbrev pub bare_oriented : Oriented → OldOriented
bare_oriented o = record { outcome = o.outcome; frame = o.frame; angles = o.angles }
