use Rattle.std.proofs.Common.{rules, arith, ap, length}
use Rattle.index.specs.Parts.{first_of, above_of}
use Rattle.index.proofs.Parts.{length_first, length_above}
use Rattle.index.proofs.up.Goals as goal

pub head_of-requires : goal.head_of-requires
unfolding first_of
head_of-requires c = omega (arith, ap length c.part-heads.ensures, length_first c.args.ix.now)

pub new-requires : goal.new-requires
unfolding above_of
new-requires c = omega (arith, ap length c.part-links.ensures, length_above c.args.ix.now)

pub returns : goal.returns
unfolding first_of above_of
returns c = search rules
