use Rattle.std.proofs.Common.{rules, ◌≡◌, ◌∙◌, length, sym, ap, subst}
use Rattle.table.specs.Places.{limit_of}
use Rattle.table.specs.Choosing.{last_in}
use Rattle.table.specs.Steps.{Within}
use Rattle.table.proofs.Limits.{limit_told}
use Rattle.pck.specs.Steps.{body_hits}
use Rattle.pck.specs.Told.{oriented_told}
use Rattle.pck.proofs.Finding.{body_within, oriented_told_lem}
use Rattle.lent.proofs.orient.Goals as goal

pub orient-requires-clause-finds : goal.orient-requires-clause-finds
orient-requires-clause-finds c = λ h. let fits = limit_told (length c.args.table.now) c.args.n h in search rules

pub orient-requires-clause-within : goal.orient-requires-clause-within
orient-requires-clause-within c = λ r k.
    let a = c.args in
    let is : r ≡ last_in (body_hits a.q) a.table.now a.n = search rules in
    subst (Within a.n) (sym is) (body_within a.table.now a.q a.n)

pub returns-clause-value : goal.returns-clause-value
returns-clause-value c =
    let a = c.args in
    c.orient.ensures (last_in (body_hits a.q) a.table.now a.n) (λ r k. search rules) ∙ oriented_told_lem (limit_of (length a.table.now)) a.kernel.now a.table.now a.n a.q

pub returns-clause-told : goal.returns-clause-told
returns-clause-told c =
    let a = c.args in
    ap oriented_told
    (c.orient.ensures (last_in (body_hits a.q) a.table.now a.n) (λ r k. search rules) ∙ oriented_told_lem (limit_of (length a.table.now)) a.kernel.now a.table.now a.n a.q)
