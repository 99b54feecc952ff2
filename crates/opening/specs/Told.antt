-- What an opening results in, in the numbers of RULES, "Refusals": 0, or one of 1 to 9. Assumes nothing: these are definitions.
use Rattle.std.specs.Prelude.{ℕ, Result, Ok, Err}
use Rattle.refusal.specs.Told.{Numbered, refused_by, answered}
use Rattle.opening.specs.declared.Opened.{Opened}
use Rattle.opening.specs.Steps.{Plan}
use Rattle.refusal.specs.declared.Refusal.{Refusal}

-- Number and detail, and how many segments there are, none where it is a refusal.
pub record Told : Type 0 where
  pub numbered : Numbered
  pub segments : ℕ

-- Into a lent table, and the plan of it.
abbrev pub found_told : Result ℕ Refusal → Told
found_told (Ok n) = record { numbered = answered; segments = n }
found_told (Err r) = record { numbered = refused_by r; segments = 0 }

abbrev pub plan_told : Plan → Told
plan_told (Ok p) = record { numbered = answered; segments = p.count }
plan_told (Err r) = record { numbered = refused_by r; segments = 0 }

-- By value: the count stands in the table.
abbrev pub outcome_told : Result (Unit {0}) Refusal → Numbered
outcome_told (Ok u) = answered
outcome_told (Err r) = refused_by r

abbrev pub opened_told : Opened → Told
opened_told o = record { numbered = outcome_told o.outcome; segments = o.table.count }
