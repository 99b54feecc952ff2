-- `bits::cut_bits` meets its contract: `proofs/Whole.antt` has a law for each of its five ways. Assumes nothing.
use native.Mathlib.Omega.{arith}
use Rattle.bits.proofs.Whole.{cut_above, cut_none, cut_down, cut_up, cut_most}
use Rattle.bits.proofs.cut_bits.Goals as goal

-- below 1
pub returns-then-exponent-lt1023 : goal.returns-then-exponent-lt1023
returns-then-exponent-lt1023 c = cut_none c.args.bits (omega arith) c.if-exponent-lt1023.true

-- from 1 to 2 ^ 52: shifted down
pub returns-then-exponent-lt1075 : goal.returns-then-exponent-lt1075
returns-then-exponent-lt1075 c = cut_down c.args.bits (omega arith) c.if-exponent-lt1023.false (omega arith)

-- above infinity's pattern
pub returns-then-bits-gt9218868437227405312 : goal.returns-then-bits-gt9218868437227405312
returns-then-bits-gt9218868437227405312 c = cut_above 64 c.args.bits c.if-bits-gt9218868437227405312.true

-- from 2 ^ 52 to 2 ^ 64: shifted up
pub returns-then-exponent-lt1087 : goal.returns-then-exponent-lt1087
returns-then-exponent-lt1087 c = cut_up c.args.bits c.if-bits-gt9218868437227405312.false c.if-exponent-lt1075.false c.if-exponent-lt1087.true

-- from 2 ^ 64 on, and infinity
pub returns : goal.returns
returns c = cut_most c.args.bits c.if-bits-gt9218868437227405312.false c.if-exponent-lt1087.false
