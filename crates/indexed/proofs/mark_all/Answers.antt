-- What the walk meets is what a scan of all meets.
use Rattle.std.proofs.Common.{rules, ◌≡◌}
use Rattle.indexed.specs.Opening.{others_by}
use Rattle.indexed.proofs.Scanning.{rival_told}
use Rattle.indexed.proofs.mark_all.Goals as goal

pub mark_by-requires-clause-right : goal.mark_by-requires-clause-right
mark_by-requires-clause-right c = λ t a i b so read k.
    let met : b ≡ others_by t.now c.args.n c.args.ix.now a i = search rules in
    rival_told c.args.table.now c.args.n i c.args.ix.now t.now a b c.requires.1.1 c.requires.1.0 so read met
