-- The numbers below n are visited.
use Rattle.std.proofs.Common.{◌∙◌, length}
use Rattle.daf.specs.declared.Family.TheVariants.{Spk}
use Rattle.segment.specs.Evaluating.{evaluated}
use Rattle.table.specs.Places.{limit_of}
use Rattle.table.proofs.Visits.{visits_up, limit_room}
use Rattle.chain.proofs.Visited.{step_upward}
use Rattle.lent.proofs.step.Goals as goal

pub step_along-requires-clause-visited : goal.step_along-requires-clause-visited
step_along-requires-clause-visited c =
    let places = length c.args.table.now in
    (_, visits_up (limit_of places) c.args.n (limit_room places c.args.n c.requires.0 c.requires.1))

pub returns : goal.returns
returns c =
    let places = length c.args.table.now in
    c.step_along.ensures _ (visits_up (limit_of places) c.args.n (limit_room places c.args.n c.requires.0 c.requires.1))
    ∙ step_upward (evaluated Spk c.args.kernel.now) c.args.table.now c.args.leg c.args.n
