-- What opening the container results in, in the numbers of RULES, "Refusals": 0, or one of 1 to 8. Assumes nothing: these are definitions.
use Rattle.std.specs.Prelude.{ℕ, Result, Ok, Err}
use Rattle.refusal.specs.Told.{Numbered, refused_by, answered}
use Rattle.refusal.specs.declared.Refusal.{Refusal}
use Rattle.daf.specs.declared.Daf.{Daf}

-- The file record: 1 to 4.
abbrev pub head_told : Result ℕ Refusal → Numbered
head_told (Ok r) = answered
head_told (Err r) = refused_by r

-- The walk: 5 or 6.
abbrev pub walked_told : Result ℕ Refusal → Numbered
walked_told (Ok n) = answered
walked_told (Err r) = refused_by r

-- Both, with the counts: 1 to 8.
abbrev pub opened_told : Result Daf Refusal → Numbered
opened_told (Ok d) = answered
opened_told (Err r) = refused_by r
