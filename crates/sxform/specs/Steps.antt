-- What the small functions of the code do. No promise of an entry point needs these. Assumes nothing: these are definitions.
use Rattle.std.specs.Prelude.{List, Float}
use Rattle.bits.specs.F64.{◌⊗◌, at, sum_from0}
use Rattle.frame.specs.State.{number}
use Rattle.frame.specs.Frame.{Matrix, table, cell}
use Rattle.frame.specs.declared.State.{State}

-- A row of three times a 3 by 3 matrix: a row of their product.
abbrev pub row_times : List Float → Matrix → List Float
row_times r b = table 3 (λ j. sum_from0 (λ k. at r k ⊗ cell b k j) 3)

-- A row of six times a state: the sum starts at +0.
abbrev pub times_state : List Float → State → Float
times_state r s = sum_from0 (λ j. at r j ⊗ number s j) 6
