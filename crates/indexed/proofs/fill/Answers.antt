use Rattle.std.proofs.Common.{◌≡◌, ◌∙◌, length, not, false, sym, ap}
use Rattle.index.specs.Parts.{filled_index}
use Rattle.indexed.specs.Opening.{takes}
use Rattle.indexed.proofs.Opening.{skipped, taken, takes_room}
use Rattle.indexed.proofs.fill.Goals as goal

pub returns-then-skips : goal.returns-then-skips
returns-then-skips c = skipped c.args.p c.args.table.now c.args.ix.now (sym c.skips.ensures ∙ c.if-skips.true)

pub fill_all-requires : goal.fill_all-requires
fill_all-requires c =
    let yes : not (takes (length c.args.ix.now) c.args.p) ≡ false = sym c.skips.ensures ∙ c.if-skips.false in
    rw c.count_in-n.ensures (c.requires, takes_room c.args.p c.args.ix.now yes)

pub returns : goal.returns
returns c =
    let yes : not (takes (length c.args.ix.now) c.args.p) ≡ false = sym c.skips.ensures ∙ c.if-skips.false in
    c.fill_all.ensures ∙ ap (λ n. filled_index c.args.table.now n c.args.ix.now) c.count_in-n.ensures ∙ taken c.args.p c.args.table.now c.args.ix.now yes
