use Rattle.std.proofs.Common.{rules}
use borrow.Author.Tests.{tests}
use Rattle.std.proofs.lemmas.Iterator.Adapters.{serves_from_places}
use Rattle.std.proofs.lemmas.Iterator.Search.{any_from_yields_List}
use Rattle.table.specs.Segments.{seg}
use Rattle.table.specs.Marks.{rivals}
use Rattle.table.proofs.Visits.{road, visited_below}
use Rattle.table.proofs.scans.any_rival.Goals as goal

pub any-requires-clause-callable : goal.any-requires-clause-callable
any-requires-clause-callable g c =
    let v = c.requires.visited.1 in
    serves_from_places (road v) (λ x q k. search rules) (λ x k l e. let w = visited_below v x k l e in search rules)

pub returns : goal.returns
returns g c = λ xs v.
    any_from_yields_List (λ k. rivals c.args.a c.args.i (seg c.args.segments.now k) k) _ _ _ c.any.ensures.ran (road v) (λ x b q k. search (rules, tests))
