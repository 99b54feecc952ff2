-- The numbers that the walk up goes to are visited.
use Rattle.std.proofs.Common.{rules, ◌≡◌, ◌∙◌, length, ap}
use mir.Syntax.{w32}
use mir.Val.{SFits}
use mir.ValLaws.{to_z-of_z}
use Rattle.table.specs.Places.{limit_of}
use Rattle.table.proofs.Visits.{limit_room}
use Rattle.index.specs.Visiting.{head_of, up}
use Rattle.index.specs.Parts.{first_of, above_of}
use Rattle.index.proofs.Iterating.{visits_walk_up}
use Rattle.indexed.specs.Stepping.{step_by}
use Rattle.indexed.proofs.step.Goals as goal

pub step_along-requires-clause-visited : goal.step_along-requires-clause-visited
step_along-requires-clause-visited c =
    let a = c.args in
    let places = length a.table.now in
    (_, visits_walk_up (above_of a.ix.now) (limit_of places) a.n _ c.up.ensures (limit_room places a.n c.requires.0.0 c.requires.0.1))

pub returns : goal.returns
unfolding step_by
returns c =
    let a = c.args in
    let places = length a.table.now in
    let fits : SFits w32 a.leg.body = search rules in
    let walk : c.up.result ≡ up (above_of a.ix.now) 0 a.n (head_of (first_of a.ix.now) a.leg.body) =
    c.up.ensures ∙ ap (λ e. up (above_of a.ix.now) 0 a.n (head_of (first_of a.ix.now) e)) (to_z-of_z w32 a.leg.body fits) in
    c.step_along.ensures _ (visits_walk_up (above_of a.ix.now) (limit_of places) a.n _ walk (limit_room places a.n c.requires.0.0 c.requires.0.1))
