use Rattle.std.proofs.Common.{◌∙◌, lt-ltb, le-ltb}
use Rattle.table.proofs.Choices.{or_yes, or_no}
use Rattle.lent.proofs.segment_or.Goals as goal

pub returns-then-i-n : goal.returns-then-i-n
returns-then-i-n c = c.segment_at.ensures ∙ or_yes c.args.table.now c.args.n c.args.i (lt-ltb c.args.i c.args.n c.if-i-n.true)

pub returns : goal.returns
returns c = c.no_segment.ensures ∙ or_no c.args.table.now c.args.n c.args.i (le-ltb c.args.i c.args.n c.if-i-n.false)
