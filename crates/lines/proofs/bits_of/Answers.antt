-- `lines::bits_of` meets its contract: past the test x is no NaN, which is what `to_bits` asks. Assumes nothing.
use mathlib.Core.Path.{sym, ap}
use lib.Ieee.{binary64, to_bits}
use Rattle.bits.proofs.Nan.{is_number, is_nan_lem}
use Rattle.lines.proofs.bits_of.Goals as goal

pub returns-then-x : goal.returns-then-x
unfolding to_bits
returns-then-x c = sym (ap (to_bits binary64) (is_nan_lem c.args.x c.if-x.true))

pub float_to_bits-result : goal.float_to_bits-result
float_to_bits-result c = is_number c.args.x c.if-x.false
