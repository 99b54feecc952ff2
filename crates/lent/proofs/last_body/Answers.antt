-- The numbers below n, from the last on, are visited.
use Rattle.std.proofs.Common.{rules, ◌∙◌, length}
use Rattle.pck.specs.Steps.{body_hits}
use Rattle.table.proofs.Visits.{visits_down, find_down}
use Rattle.lent.proofs.last_body.Goals as goal

pub first_where-requires-clause-visited : goal.first_where-requires-clause-visited
first_where-requires-clause-visited c = (_, visits_down (length c.args.table.now) c.args.n c.rev.ensures.source c.requires)

pub returns : goal.returns
returns c =
    c.first_where.ensures _ (body_hits c.args.q) (visits_down (length c.args.table.now) c.args.n c.rev.ensures.source c.requires) (λ s b k. search rules)
    ∙ find_down c.args.table.now (body_hits c.args.q) c.args.n c.rev.ensures.source
