-- `bits::double_of` meets its contract: with the sign taken off, a NaN pattern is one above infinity's. Assumes nothing.
use mathlib.Core.Path.{sym, ◌∙◌}
use Prim.Native.Nat.{◌^◌, ◌%◌}
use lib.Ieee.{binary64, of_bits}
use lib.Ieee.Bits.{nan_bits_is, nan_bits_above}
use borrow.Author.Tests.{lt-ltb, le-ltb}
use Rattle.bits.proofs.Nan.{no, the_nan, nan_pattern}
use Rattle.bits.proofs.double_of.Goals as goal

-- `f64::from_bits` asks that the pattern is no NaN's
pub float_from_bits-result : goal.float_from_bits-result
float_from_bits-result c = let b = c.args.bits in no (nan_bits_above binary64 b ∙ le-ltb 0x7ff0_0000_0000_0000 (b % 2 ^ 63) c.if-bits-gt9218868437227405312.false)

-- a NaN's pattern is read as the NaN, which the constant is
pub returns-then-bits-gt9218868437227405312 : goal.returns-then-bits-gt9218868437227405312
returns-then-bits-gt9218868437227405312 c =
    let b = c.args.bits in
    nan_pattern ∙ sym (the_nan (of_bits binary64 b) (sym (nan_bits_is binary64 b) ∙ nan_bits_above binary64 b ∙ lt-ltb 0x7ff0_0000_0000_0000 (b % 2 ^ 63) c.if-bits-gt9218868437227405312.true))
