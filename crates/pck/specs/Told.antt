-- An orientation, in the numbers of RULES, "Refusals". Assumes nothing: these are definitions.
use Rattle.std.specs.Prelude.{Bool, ℤ, Result, Ok, Err}
use Rattle.frame.specs.declared.State.{State}
use Rattle.refusal.specs.Told.{Numbered, refused_by, answered}
use Rattle.refusal.specs.declared.Refusal.{Refusal}
use Rattle.pck.specs.declared.Oriented.{Oriented}

-- How it ended: 0, or its refusal.
abbrev pub outcome_told : Result (Unit {0}) Refusal → Numbered
outcome_told (Ok _) = answered
outcome_told (Err r) = refused_by r

-- Number and detail, the reference frame, the three angles with their rates, and whether a record was stretched.
pub record Told : Type 0 where
  pub numbered : Numbered
  pub frame : ℤ
  pub six : State
  pub stretched : Bool

abbrev pub oriented_told : Oriented → Told
oriented_told o = record { numbered = outcome_told o.outcome; frame = o.frame; six = o.angles; stretched = o.stretched }
