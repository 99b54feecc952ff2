-- The walk of a chain as it was defined before a state said whether a record was stretched, for one statement alone: that state, frame and refusal are
-- those of then (`Before` in `proofs`). It is the walk of `Step` and `Walk`, with a state and its frame where those have the word too. Assumes nothing:
-- these are definitions.
use Rattle.std.specs.Prelude.{ℕ, zero, suc, Bool, true, false, cond, ◌&&◌, List, ℤ, pos, Float, Result, Ok, Err}
use Rattle.bits.specs.Same.{same_z}
use Rattle.frame.specs.declared.State.{State}
use Rattle.frame.specs.declared.Given.{Given}
use Rattle.frame.specs.declared.Framed.{Framed}
use Rattle.frame.specs.declared.Framed.TheVariants.{Nothing, One}
use Rattle.frame.specs.State.{zero_state, plus_state}
use Rattle.frame.specs.Framed.{joined}
use Rattle.refusal.specs.declared.Refusal.{Refusal}
use Rattle.refusal.specs.declared.Refusal.TheVariants.{NoCoverage}
use Rattle.segment.specs.declared.Segment.{Segment}
use Rattle.segment.specs.Before.{OldEvaluated, Gives, Refuses, bare_evaluated}
use Rattle.table.specs.Segments.{is_covering, seg}
use Rattle.chain.specs.declared.Leg.{Leg}
use Rattle.chain.specs.Step.{Evaluation, reaches_zero}
use Rattle.chain.specs.Walk.{chain_limit}

-- An evaluation of segments by their numbers at an epoch: `old_evaluated Spk k` for a kernel k.
abbrev pub OldEvaluation : Type 0
OldEvaluation = Segment → ℕ → Float → OldEvaluated

-- A state and the frame of its numbers; six times +0, which no segment gave; a segment's, in its own frame; the sum, the frames joined.
pub record OldGiven : Type 0 where
  pub state : State
  pub frame : Framed

abbrev pub old_nothing : OldGiven
old_nothing = record { state = zero_state; frame = Nothing }

abbrev pub old_given_of : State → ℤ → OldGiven
old_given_of x f = record { state = x; frame = One f }

abbrev pub old_plus : OldGiven → OldGiven → OldGiven
old_plus a b = record { state = plus_state a.state b.state; frame = joined a.frame b.frame }

-- What segments gave together, or the refusal that came of them; of one segment.
pub data OldYielded : Type 0 where
  Gave : OldGiven → OldYielded
  Refusing : Refusal → OldYielded

abbrev pub old_yield_of : Segment → OldEvaluated → OldYielded
old_yield_of s (Gives x) = Gave (old_given_of x s.frame)
old_yield_of s (Refuses r) = Refusing r

-- A walk's leg: its sum is a state with its frame.
pub record OldLeg : Type 0 where
  pub start : ℤ
  pub body : ℤ
  pub et : Float
  pub total : OldGiven

-- The segment that a step keeps: its center and what it gives.
pub record OldHop : Type 0 where
  pub center : ℤ
  pub given : OldGiven

-- What a scan has met.
pub data OldStep : Type 0 where
  Blocked : OldStep
  Kept : OldHop → OldStep
  Zero : OldGiven → OldStep
  Refused : Refusal → OldStep

-- The walk has ended, or goes on.
pub data OldNext : Type 0 where
  Ended : OldYielded → OldNext
  Onward : OldLeg → OldNext

-- A segment leaves the leg's body and covers the epoch.
abbrev pub old_leaves : Segment → OldLeg → Bool
old_leaves s leg = same_z s.target leg.body && is_covering s leg.et

-- The first that was kept stays.
abbrev pub old_kept_or : OldStep → OldStep → OldStep
old_kept_or Blocked next = next
old_kept_or (Kept hop) next = Kept hop
old_kept_or (Zero x) next = Zero x
old_kept_or (Refused r) next = Refused r

-- A state ends the scan where its center is body 0; else it is kept, if nothing was.
abbrev pub old_met : OldStep → Segment → OldGiven → OldStep
old_met kept s x = cond (reaches_zero s) (Zero x) (old_kept_or kept (Kept (record { center = s.center; given = x })))

-- A refusal ends it too.
abbrev pub old_seen : OldStep → Segment → OldEvaluated → OldStep
old_seen kept s (Gives x) = old_met kept s (old_given_of x s.frame)
old_seen kept s (Refuses r) = Refused r

-- One segment of the scan.
abbrev pub old_look : OldEvaluation → OldLeg → OldStep → Segment → ℕ → OldStep
old_look ev leg kept s i = cond (old_leaves s leg) (old_seen kept s (ev s i leg.et)) kept

-- A state about body 0 or a refusal ends the scan.
abbrev pub old_is_end : OldStep → Bool
old_is_end Blocked = false
old_is_end (Kept hop) = false
old_is_end (Zero x) = true
old_is_end (Refused r) = true

-- The scan of r segments from number i on.
unfoldable pub old_step_in : OldEvaluation → List Segment → OldLeg → OldStep → ℕ → ℕ → OldStep
old_step_in ev segs leg kept i zero = kept
old_step_in ev segs leg kept i (suc r) =
    let next = old_look ev leg kept (seg segs i) i in
    let rest = old_step_in ev segs leg next (suc i) r in
    cond (old_is_end next) next rest

-- 11 for a body.
abbrev pub old_no_coverage : ℤ → OldYielded
old_no_coverage body = Refusing (NoCoverage body)

-- The leg after a kept segment: what it gives is added.
abbrev pub old_onward : OldLeg → OldHop → OldLeg
old_onward leg hop = record { start = leg.start; body = hop.center; et = leg.et; total = old_plus leg.total hop.given }

-- What a step results in: back at the start is 11 for the start.
abbrev pub old_advance : OldLeg → OldStep → OldNext
old_advance leg Blocked = Ended (old_no_coverage leg.body)
old_advance leg (Kept hop) = cond (same_z hop.center leg.start) (Ended (old_no_coverage leg.start)) (Onward (old_onward leg hop))
old_advance leg (Zero x) = Ended (Gave (old_plus leg.total x))
old_advance leg (Refused r) = Ended (Refusing r)

-- The end, or the walk from the next leg.
abbrev pub old_follow : (OldLeg → OldYielded) → OldNext → OldYielded
old_follow go (Ended e) = e
old_follow go (Onward leg) = go leg

-- A walk of at most so many steps.
unfoldable pub old_walk_from : OldEvaluation → List Segment → ℕ → OldLeg → ℕ → OldYielded
old_walk_from ev segs n leg zero = old_no_coverage leg.start
old_walk_from ev segs n leg (suc left) = old_follow (λ on. old_walk_from ev segs n on left) (old_advance leg (old_step_in ev segs leg Blocked 0 n))

-- The state of a leg's body about body 0.
abbrev pub old_to_zero : OldEvaluation → List Segment → ℕ → OldLeg → OldYielded
old_to_zero ev segs n leg = cond (same_z leg.body (pos 0)) (Gave leg.total) (old_walk_from ev segs n leg chain_limit)

-- ---- the word left out
abbrev pub bare_given : Given → OldGiven
bare_given g = record { state = g.state; frame = g.frame }

-- What a walk ended with.
abbrev pub bare : Result Given Refusal → OldYielded
bare (Ok g) = Gave (bare_given g)
bare (Err r) = Refusing r

-- A leg.
abbrev pub bare_leg : Leg → OldLeg
bare_leg leg = record { start = leg.start; body = leg.body; et = leg.et; total = bare_given leg.total }

-- An evaluation.
abbrev pub bare_evaluation : Evaluation → OldEvaluation
bare_evaluation ev s i et = bare_evaluated (ev s i et)
