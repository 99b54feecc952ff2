-- What judging and evaluating a segment result in, in the numbers of RULES, "Refusals". Assumes nothing: these are definitions.
use Rattle.std.specs.Prelude.{ℕ, Bool, false, Option, Some, None, Result, Ok, Err}
use Rattle.frame.specs.declared.State.{State}
use Rattle.frame.specs.State.{zero_state}
use Rattle.refusal.specs.declared.Refusal.TheVariants as refusals
use Rattle.refusal.specs.Told.{Numbered, refused_by, answered}
use Rattle.refusal.specs.declared.Refusal.{Refusal}
use Rattle.segment.specs.declared.Valued.{Valued}
use Rattle.segment.specs.declared.Segment.{Segment}

-- Number and detail; the six numbers, each +0 where it is a refusal; and whether a record was stretched, which a refusal denies.
pub record Told : Type 0 where
  pub numbered : Numbered
  pub six : State
  pub stretched : Bool

-- An evaluation: 0 with the state, or its refusal.
abbrev pub evaluated_told : Result Valued Refusal → Told
evaluated_told (Ok v) = record { numbered = answered; six = v.state; stretched = v.stretched }
evaluated_told (Err r) = record { numbered = refused_by r; six = zero_state; stretched = false }

-- A record of type 2 in segment i, stretched or not: 0 with the state, or 13 with the segment's number.
abbrev pub cheby_told : ℕ → Bool → Option State → Told
cheby_told i b (Some s) = record { numbered = answered; six = s; stretched = b }
cheby_told i b None = record { numbered = refused_by (refusals.ZeroRadius i); six = zero_state; stretched = false }

-- A summary that is segment i: 0, or 9 with its number.
abbrev pub judged_told : ℕ → Option Segment → Numbered
judged_told i (Some s) = answered
judged_told i None = refused_by (refusals.Malformed i)
