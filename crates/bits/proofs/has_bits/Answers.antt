-- `bits::has_bits` meets its contract: x has one pattern, and no NaN's. Assumes nothing.
use Rattle.bits.proofs.Nan.{yes}
use Rattle.bits.proofs.Finite.{finite_number}
use Rattle.bits.proofs.Patterns.{pattern_same}
use Rattle.bits.proofs.has_bits.Goals as goal

pub float_to_bits-result : goal.float_to_bits-result
float_to_bits-result c = finite_number c.args.x c.requires

pub returns : goal.returns
returns c = pattern_same c.args.bits c.args.x c.ranges.bits.fits (yes c.well_formed.1.0.1) (finite_number c.args.x c.requires)
