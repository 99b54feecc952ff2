-- What becomes of a run with a matrix file, in the numbers of RULES, "Refusals". Assumes nothing: this is a definition.
use Rattle.std.specs.Prelude.{Result, Ok, Err}
use Rattle.refusal.specs.declared.Refusal.TheVariants.{InputTooLong}
use Rattle.refusal.specs.Told.{Numbered, refused_by, answered}
use Rattle.admission.specs.declared.MatrixFault.{MatrixFault}
use Rattle.admission.specs.declared.MatrixFault.TheVariants.{TooLong, Unfit}

-- 18 where a file is too long; a matrix file that is none is no refusal but a line on the error output.
abbrev pub matrix_told : Result (Unit {0}) MatrixFault → Numbered
matrix_told (Err TooLong) = refused_by InputTooLong
matrix_told (Err Unfit) = answered
matrix_told (Ok _) = answered
