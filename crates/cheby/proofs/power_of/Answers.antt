-- `cheby::power_of` meets its contract: where the power is finite, the pattern is no NaN's. No power's pattern is above infinity's. Assumes nothing.
use native.Mathlib.Omega.{arith}
use Rattle.bits.proofs.Nan.{no}
use Rattle.cheby.proofs.Numbers.{under_nan, power_clear}
use Rattle.cheby.proofs.power_of.Goals as goal

pub float_from_bits-result : goal.float_from_bits-result
float_from_bits-result c = no (under_nan _ (omega arith))

pub returns : goal.returns
returns c = power_clear c.args.bits
