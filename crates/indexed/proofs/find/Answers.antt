-- The numbers that the walk down goes to are visited.
use Rattle.std.proofs.Common.{rules, ◌≡◌, ◌∙◌, length, ap}
use mir.Syntax.{w32}
use mir.Val.{SFits}
use mir.ValLaws.{to_z-of_z}
use Rattle.index.specs.Visiting.{head_of, down, last_by}
use Rattle.index.specs.Parts.{last_of, below_of}
use Rattle.index.proofs.Iterating.{visits_walk_down, find_chosen}
use Rattle.spk.specs.Questions.{hits}
use Rattle.indexed.proofs.find.Goals as goal

pub first_where-requires-clause-visited : goal.first_where-requires-clause-visited
first_where-requires-clause-visited c = (_, visits_walk_down (below_of c.args.ix.now) (length c.args.table.now) c.args.n _ c.down.ensures c.requires.0)

pub returns : goal.returns
unfolding last_by
returns c =
    let a = c.args in
    let fits : SFits w32 a.q.target = search rules in
    let walk : c.down.result ≡ down (below_of a.ix.now) a.n (head_of (last_of a.ix.now) a.q.target) =
    c.down.ensures ∙ ap (λ e. down (below_of a.ix.now) a.n (head_of (last_of a.ix.now) e)) (to_z-of_z w32 a.q.target fits) in
    c.first_where.ensures _ (hits a.q) (visits_walk_down (below_of a.ix.now) (length a.table.now) a.n _ walk c.requires.0) (λ s b k. search rules)
    ∙ find_chosen a.table.now (hits a.q) _
