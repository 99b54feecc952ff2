-- The numbers below n, from the last on, are visited.
use Rattle.std.proofs.Common.{◌∙◌, length}
use Rattle.table.proofs.Visits.{visits_down, any_down}
use Rattle.lent.proofs.has_rival.Goals as goal

pub any_rival-requires-clause-visited : goal.any_rival-requires-clause-visited
any_rival-requires-clause-visited c = (_, visits_down (length c.args.table.now) c.args.n c.rev.ensures.source c.requires)

pub returns : goal.returns
returns c =
    c.any_rival.ensures _ (visits_down (length c.args.table.now) c.args.n c.rev.ensures.source c.requires)
    ∙ any_down c.args.table.now c.args.a c.args.i c.args.n c.rev.ensures.source
