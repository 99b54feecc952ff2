-- `bits::cut_u64` meets its contract: away from a NaN a double is the one of its own pattern. Assumes nothing.
use mathlib.Core.Path.{sym, ap, ◌∙◌}
use lib.Ieee.{binary64, to_unsigned}
use lib.Ieee.Bits.{of_bits-to_bits}
use Rattle.bits.proofs.Nan.{yes, the_nan}
use Rattle.bits.proofs.Whole.{cut_nan}
use Rattle.bits.proofs.cut_u64.Goals as goal

-- a NaN
pub returns-then-is_nan : goal.returns-then-is_nan
returns-then-is_nan c = let x = c.args.x in cut_nan 64 x (the_nan x (sym c.is_nan.ensures.value ∙ c.if-is_nan.true))

-- `.good` says that the format holds x, so reading its own pattern gives x back
pub returns : goal.returns
returns c = c.cut_bits.ensures ∙ ap (to_unsigned 64) (of_bits-to_bits binary64 c.args.x (yes c.well_formed.0.1))
