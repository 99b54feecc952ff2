use Rattle.std.proofs.Common.{rules, ◌≡◌, length, sym, subst}
use Rattle.table.specs.Places.{limit_of}
use Rattle.table.specs.Steps.{Within}
use Rattle.table.proofs.Limits.{limit_told}
use Rattle.indexed.specs.Orienting.{body_found}
use Rattle.indexed.proofs.Orienting.{found_within}
use Rattle.indexed.proofs.turn.Goals as goal

pub orient-requires-clause-finds : goal.orient-requires-clause-finds
orient-requires-clause-finds c = λ h. let fits = limit_told (length c.args.table.now) c.args.n h in search rules

pub orient-requires-clause-within : goal.orient-requires-clause-within
orient-requires-clause-within c = λ r k.
    let a = c.args in
    let is : r ≡ body_found a.table.now a.n a.ix.now a.q = search rules in
    subst (Within a.n) (sym is) (found_within (limit_of (length a.table.now)) a.kernel.now a.table.now a.n a.q a.ix.now a.n)

pub returns : goal.returns
returns c = let a = c.args in c.orient.ensures (body_found a.table.now a.n a.ix.now a.q) (λ r k. search rules)
