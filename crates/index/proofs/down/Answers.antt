use Rattle.std.proofs.Common.{rules, arith, ap, length}
use Rattle.index.specs.Parts.{last_of, below_of}
use Rattle.index.proofs.Parts.{length_last, length_below}
use Rattle.index.proofs.down.Goals as goal

pub head_of-requires : goal.head_of-requires
unfolding last_of
head_of-requires c = omega (arith, ap length c.part-heads.ensures, length_last c.args.ix.now)

pub new-requires : goal.new-requires
unfolding below_of
new-requires c = omega (arith, ap length c.part-links.ensures, length_below c.args.ix.now)

pub returns : goal.returns
unfolding last_of below_of
returns c = search rules
