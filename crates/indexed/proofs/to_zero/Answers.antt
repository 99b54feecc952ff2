use Rattle.std.proofs.Common.{rules, ◌∙◌, ap}
use Rattle.daf.specs.declared.Family.TheVariants.{Spk}
use Rattle.segment.specs.Evaluating.{evaluated}
use Rattle.index.specs.Parts.{first_of, above_of}
use Rattle.chain.specs.Walk.{chain_limit}
use Rattle.chain.proofs.Walked.{on_by, begin_by}
use Rattle.spk.specs.Asking.{leg_from}
use Rattle.indexed.specs.Stepping.{step_by}
use Rattle.indexed.proofs.to_zero.Goals as goal

pub returns : goal.returns
returns c =
    let a = c.args in
    let by = step_by (evaluated Spk a.kernel.now) a.table.now a.n (first_of a.ix.now) (above_of a.ix.now) in
    c.walk.ensures by (λ leg r k. search rules) ∙ ap (on_by by chain_limit) c.start_of-from.ensures ∙ begin_by by (leg_from a.q)
