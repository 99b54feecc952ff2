use Rattle.std.proofs.Common.{rules, ◌∙◌, ap}
use Rattle.daf.specs.declared.Family.TheVariants.{Spk}
use Rattle.segment.specs.Evaluating.{evaluated}
use Rattle.chain.specs.Step.{step_from}
use Rattle.chain.specs.Walk.{chain_limit}
use Rattle.chain.proofs.Walks.{ahead, begin_told}
use Rattle.chain.proofs.Walked.{ahead_same}
use Rattle.spk.specs.Asking.{leg_from}
use Rattle.lent.proofs.to_zero.Goals as goal

pub returns : goal.returns
returns c =
    let a = c.args in
    let ev = evaluated Spk a.kernel.now in
    c.walk.ensures (step_from ev a.table.now a.n) (λ leg r k. search rules)
    ∙ ahead_same ev a.table.now a.n chain_limit c.start_of-from.result
    ∙ ap (ahead ev a.table.now a.n chain_limit) c.start_of-from.ensures
    ∙ begin_told ev a.table.now a.n (leg_from a.q)
