use Rattle.std.proofs.Common.{rules, ◌∙◌, sym}
use Rattle.std.proofs.lemmas.Iterator.Adapters.{serves_from_places}
use Rattle.std.proofs.lemmas.Iterator.Search.{find_from_yields_List}
use Rattle.table.specs.Segments.{seg}
use Rattle.table.proofs.Visits.{road, visited_below, same_option}
use Rattle.table.proofs.scans.first_where.Goals as goal

pub find-requires-clause-callable : goal.find-requires-clause-callable
find-requires-clause-callable g c =
    let v = c.requires.visited.1 in
    serves_from_places (road v) (λ x q k. search rules) (λ x k l e. let w = visited_below v x k l e in search rules)

pub returns : goal.returns
returns g c = λ xs p v h.
    sym (same_option _)
    ∙ find_from_yields_List (λ k. p (seg c.args.segments.now k)) _ _ _ c.find.ensures.ran (road v) (λ x b q k. (search rules, h _ _ (search rules)))
