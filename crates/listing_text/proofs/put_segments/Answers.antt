-- `listing_text::put_segments` meets its contract. Assumes nothing.
use Rattle.std.proofs.Common.{subst, arith}
use Rattle.lines.specs.Written.{Put}
use Rattle.lines.proofs.Texts.{first_turn, next_turn, last_turn}
use Rattle.listing_text.specs.Lines.{segment_text}
use Rattle.listing_text.proofs.Texts.{lines_from, turns}
use Rattle.listing_text.proofs.put_segments.Goals as goal

pub loop-i-init : goal.loop-i-init
loop-i-init c = (omega arith, first_turn (lines_from c.args.table.now) c.args.m c.args.page.now tt)

pub segment_at-s-requires : goal.segment_at-s-requires
segment_at-s-requires c = omega (arith, c.requires.0)

pub put_segment-requires : goal.put_segment-requires
put_segment-requires c = omega (arith, c.requires.1, c.loop-i.invariant.0, c.loop-i.invariant.1.long)

pub loop-i-preserved : goal.loop-i-preserved
loop-i-preserved c =
    let line = subst (λ s. Put c.loop-i.page (segment_text c.loop-i.i s) c.put_segment.new.page) c.segment_at-s.ensures c.put_segment.ensures.written in (
      omega (arith, c.loop-i.invariant.0, c.put_segment.ensures.upper_bound),
      next_turn (turns c.args.table.now) c.args.m c.loop-i.i tt (omega arith) c.loop-i.invariant.1 line,
    )

pub returns-clause-written : goal.returns-clause-written
returns-clause-written c = last_turn (turns c.args.table.now) c.args.m c.loop-i.i tt (omega arith) c.loop-i.invariant.1

pub returns-clause-upper_bound : goal.returns-clause-upper_bound
returns-clause-upper_bound c = omega (arith, c.loop-i.invariant.0)
