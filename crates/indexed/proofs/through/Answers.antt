use Rattle.std.proofs.Common.{rules, ◌≡◌, ◌∙◌, length, sym, subst}
use Rattle.daf.specs.declared.Family.TheVariants.{Spk}
use Rattle.segment.specs.Evaluating.{evaluated}
use Rattle.table.specs.Places.{limit_of}
use Rattle.table.specs.Steps.{Within}
use Rattle.table.proofs.Limits.{limit_told}
use Rattle.indexed.specs.Asking.{last_found, chained_by}
use Rattle.indexed.proofs.Asking.{last_within, handed_through}
use Rattle.indexed.proofs.through.Goals as goal

pub ask-requires-clause-finds : goal.ask-requires-clause-finds
ask-requires-clause-finds c = λ h. let fits = limit_told (length c.args.table.now) c.args.n h in search rules

pub ask-requires-clause-gives : goal.ask-requires-clause-gives
ask-requires-clause-gives c = λ h. let fits = limit_told (length c.args.table.now) c.args.n h in search rules

pub ask-requires-clause-within : goal.ask-requires-clause-within
ask-requires-clause-within c = λ p r k.
    let a = c.args in
    let is : r ≡ last_found a.table.now a.n a.ix.now p = search rules in
    subst (Within a.n) (sym is) (last_within a.table.now a.n a.ix.now p)

pub returns : goal.returns
returns c =
    let a = c.args in
    let ev = evaluated Spk a.kernel.now in
    c.ask.ensures (last_found a.table.now a.n a.ix.now) (chained_by ev a.table.now a.n a.ix.now) (λ p r k. search rules) (λ p r k. search rules)
    ∙ handed_through (limit_of (length a.table.now)) ev a.table.now a.n a.ix.now a.memory a.q
