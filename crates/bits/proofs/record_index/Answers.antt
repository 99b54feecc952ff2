-- `bits::record_index` meets its contract: the whole part at 64 bits, up to n - 1. Assumes nothing.
use native.Mathlib.Omega.{arith}
use Rattle.bits.proofs.Whole.{record_cut}
use Rattle.bits.proofs.record_index.Goals as goal

pub returns : goal.returns
returns c = let a = c.args in omega (arith, record_cut a.q a.n (omega arith))
