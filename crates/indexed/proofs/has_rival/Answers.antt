-- The numbers that the walk down goes to are visited.
use Rattle.std.proofs.Common.{rules, ◌≡◌, ◌∙◌, length, ap}
use mir.Syntax.{w32}
use mir.Val.{SFits}
use mir.ValLaws.{to_z-of_z}
use Rattle.index.specs.Visiting.{head_of, down}
use Rattle.index.specs.Parts.{last_of, below_of}
use Rattle.index.proofs.Iterating.{visits_walk_down, any_others}
use Rattle.indexed.proofs.has_rival.Goals as goal

pub any_rival-requires-clause-visited : goal.any_rival-requires-clause-visited
any_rival-requires-clause-visited c = (_, visits_walk_down (below_of c.args.ix.now) (length c.args.table.now) c.args.n _ c.down.ensures c.requires.0)

pub returns : goal.returns
returns c =
    let a = c.args in
    let fits : SFits w32 a.a.target = search rules in
    let walk : c.down.result ≡ down (below_of a.ix.now) a.n (head_of (last_of a.ix.now) a.a.target) =
    c.down.ensures ∙ ap (λ e. down (below_of a.ix.now) a.n (head_of (last_of a.ix.now) e)) (to_z-of_z w32 a.a.target fits) in
    c.any_rival.ensures _ (visits_walk_down (below_of a.ix.now) (length a.table.now) a.n _ walk c.requires.0) ∙ any_others a.table.now a.a a.i _
