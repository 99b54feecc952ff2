-- `bits::has_whole` meets its contract. Assumes nothing.
use native.Mathlib.Omega.{arith}
use Rattle.bits.proofs.Few.{whole_finite}
use Rattle.bits.proofs.has_whole.Goals as goal

pub has_bits-requires : goal.has_bits-requires
has_bits-requires c = rw c.whole_double.ensures (whole_finite c.args.n (omega arith))
