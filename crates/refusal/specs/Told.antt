-- An answer in the numbers of RULES, "Refusals". Assumes nothing: these are definitions.
use Rattle.std.specs.Prelude.{ℕ, ℤ, pos}
use Rattle.refusal.specs.declared.Refusal.{Refusal}
use Rattle.refusal.specs.Numbers.{number_of, detail_of}

-- The number of a refusal, from 1 on, with its detail; 0 and 0 where it is none.
pub record Numbered : Type 0 where
  pub number : ℕ
  pub detail : ℤ

abbrev pub refused_by : Refusal → Numbered
refused_by r = record { number = number_of r; detail = detail_of r }

abbrev pub answered : Numbered
answered = record { number = 0; detail = pos 0 }
