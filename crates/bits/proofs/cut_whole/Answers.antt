-- `bits::cut_whole` meets its contract: the way of `cut_bits` from 1 on. Assumes nothing.
use Rattle.bits.proofs.Whole.{cut_down}
use Rattle.bits.proofs.cut_whole.Goals as goal

pub returns : goal.returns
returns c = cut_down c.args.bits c.requires.0 c.requires.1 c.requires.2
