use Rattle.std.proofs.Common.{sym, subst, arith}
use Rattle.std.proofs.lemmas.List.{length-replicate}
use borrow.Author.Rules.{rules}
use Rattle.lines.proofs.Texts.{left}
use Rattle.daf.specs.declared.Family.TheVariants.{Spk}
use Rattle.table.specs.Places.{lent_limit}
use Rattle.opening.specs.Steps.{Fits}
use Rattle.opening.proofs.Planned.{plan_ready}
use Rattle.listing_text.proofs.Whole.{lines_few, whole_text}
use Rattle.listing_text.proofs.put_text.Goals as goal

pub carry_out-requires : goal.carry_out-requires
carry_out-requires c = rw c.plan_of-p.ensures (plan_ready Spk lent_limit c.args.kernel.now)

pub put_segments-requires : goal.put_segments-requires
put_segments-requires c =
    let few = lines_few c.args.kernel.now c.plan_of-p.ensures c.count_in-n.ensures in
    let fits = subst (Fits lent_limit c.args.kernel.now) (sym c.plan_of-p.ensures) (plan_ready Spk lent_limit c.args.kernel.now) in
    let places = length-replicate lent_limit c.no_segment-e.result in
    (omega (arith, fits.0, c.count_in-n.ensures, c.carry_out.auto.table, places), omega (arith, few, c.requires, c.put_first.ensures.upper_bound, c.put_first.ensures.written.long))

pub returns-clause-written : goal.returns-clause-written
returns-clause-written c =
    left
    (whole_text c.args.kernel.now c.plan_of-p.ensures c.no_segment-e.ensures c.carry_out.ensures c.count_in-n.ensures
    c.put_first.ensures.written c.put_segments.ensures.written)
    (search rules)

pub returns-clause-upper_bound : goal.returns-clause-upper_bound
returns-clause-upper_bound c =
    let few = lines_few c.args.kernel.now c.plan_of-p.ensures c.count_in-n.ensures in
    omega (arith, few, c.put_first.ensures.upper_bound, c.put_segments.ensures.upper_bound)
