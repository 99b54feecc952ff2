-- Past the test x is no NaN. Assumes nothing.
use Rattle.bits.proofs.Nan.{is_number}
use Rattle.replay_cheby.proofs.put.Goals as goal

pub float_to_bits-n : goal.float_to_bits-n
float_to_bits-n c = is_number c.args.x c.if-x.false
