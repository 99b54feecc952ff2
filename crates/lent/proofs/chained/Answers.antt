use Rattle.std.proofs.Common.{rules}
use Rattle.daf.specs.declared.Family.TheVariants.{Spk}
use Rattle.segment.specs.Evaluating.{evaluated}
use Rattle.chain.specs.Walk.{to_zero}
use Rattle.spk.specs.Asking.{leg_from, chained}
use Rattle.lent.proofs.chained.Goals as goal

pub returns : goal.returns
unfolding chained
returns c = let a = c.args in c.chain_of.ensures (λ p. to_zero (evaluated Spk a.kernel.now) a.table.now a.n (leg_from p)) (λ p r k. search rules)
