-- What reading a program's file results in, in the numbers of RULES, "Refusals". Assumes nothing: these are definitions.
use Rattle.std.specs.Prelude.{ℕ, cond, Option, Some, None, ltb}
use Rattle.refusal.specs.declared.Refusal.TheVariants.{InputTooLong}
use Rattle.refusal.specs.Told.{Numbered, refused_by, answered}
use Rattle.streams.specs.Input.{input_limit}

-- 18 where there are more bytes than a program takes; a file that can't be read is no refusal but a line on the error output.
abbrev pub input_told : Option ℕ → Numbered
input_told (Some n) = cond (ltb input_limit n) (refused_by InputTooLong) answered
input_told None = answered
