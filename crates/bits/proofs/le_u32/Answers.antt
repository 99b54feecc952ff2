-- `bits::le_u32` meets its contract: std weighs the four bytes as `le32` does. Assumes nothing.
use native.Mathlib.Omega.{arith}
use Rattle.bits.specs.Bytes.{le32}
use Rattle.bits.proofs.le_u32.Goals as goal

pub returns : goal.returns
unfolding le32
returns c = omega (arith, c.from_le_bytes.ensures)
