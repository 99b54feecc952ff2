use Rattle.std.proofs.Common.{rules, ◌≡◌, ◌∙◌, length, sym, ap, subst}
use Rattle.daf.specs.declared.Family.TheVariants.{Spk}
use Rattle.segment.specs.Evaluating.{evaluated}
use Rattle.table.specs.Places.{limit_of}
use Rattle.table.specs.Steps.{Within}
use Rattle.table.proofs.Limits.{limit_told}
use Rattle.spk.specs.Choosing.{last_forward}
use Rattle.spk.specs.Asking.{chained}
use Rattle.spk.specs.Told.{asked_told}
use Rattle.spk.proofs.Finding.{last_within}
use Rattle.spk.proofs.Handed.{handed_all}
use Rattle.lent.proofs.state.Goals as goal

pub ask-requires-clause-finds : goal.ask-requires-clause-finds
ask-requires-clause-finds c = λ h. let fits = limit_told (length c.args.table.now) c.args.n h in search rules

pub ask-requires-clause-gives : goal.ask-requires-clause-gives
ask-requires-clause-gives c = λ h. let fits = limit_told (length c.args.table.now) c.args.n h in search rules

pub ask-requires-clause-within : goal.ask-requires-clause-within
ask-requires-clause-within c = λ p r k.
    let is : r ≡ last_forward c.args.table.now c.args.n p = search rules in
    subst (Within c.args.n) (sym is) (last_within c.args.table.now c.args.n p)

pub returns-clause-value : goal.returns-clause-value
returns-clause-value c =
    let a = c.args in
    let ev = evaluated Spk a.kernel.now in
    c.ask.ensures (last_forward a.table.now a.n) (chained ev a.table.now a.n) (λ p r k. search rules) (λ p r k. search rules)
    ∙ handed_all (limit_of (length a.table.now)) ev a.table.now a.n a.memory a.q

pub returns-clause-told : goal.returns-clause-told
returns-clause-told c =
    let a = c.args in
    let ev = evaluated Spk a.kernel.now in
    ap asked_told
    (c.ask.ensures (last_forward a.table.now a.n) (chained ev a.table.now a.n) (λ p r k. search rules) (λ p r k. search rules)
    ∙ handed_all (limit_of (length a.table.now)) ev a.table.now a.n a.memory a.q)
