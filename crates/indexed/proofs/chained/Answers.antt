use Rattle.std.proofs.Common.{rules}
use Rattle.daf.specs.declared.Family.TheVariants.{Spk}
use Rattle.segment.specs.Evaluating.{evaluated}
use Rattle.index.specs.Parts.{first_of, above_of}
use Rattle.chain.specs.Walked.{to_zero_by}
use Rattle.spk.specs.Asking.{leg_from}
use Rattle.indexed.specs.Stepping.{step_by}
use Rattle.indexed.specs.Asking.{chained_by}
use Rattle.indexed.proofs.chained.Goals as goal

pub returns : goal.returns
unfolding chained_by
returns c =
    let a = c.args in
    let by = step_by (evaluated Spk a.kernel.now) a.table.now a.n (first_of a.ix.now) (above_of a.ix.now) in
    c.chain_of.ensures (λ p. to_zero_by by (leg_from p)) (λ p r k. search rules)
