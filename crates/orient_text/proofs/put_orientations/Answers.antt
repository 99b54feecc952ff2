-- `orient_text::put_orientations` meets its contract. Assumes nothing.
use Rattle.std.proofs.Common.{◌∙◌, length, ap, arith}
use Rattle.table.specs.Places.{limit_of}
use Rattle.indexed.specs.Orienting.{oriented_with}
use Rattle.lines.proofs.Texts.{first_turn, last_turn}
use Rattle.orient_text.proofs.Turns.{lines_from, turns, put_more}
use Rattle.orient_text.proofs.put_orientations.Goals as goal

pub loop-i-init : goal.loop-i-init
loop-i-init c = let a = c.args in (omega arith, first_turn (lines_from (limit_of (length a.table.now)) a.kernel.now a.table.now a.n a.ix.now a.asked.now) a.m a.page.now tt)

pub question_at-q-requires : goal.question_at-q-requires
question_at-q-requires c = omega (arith, c.requires.0)

pub put_oriented-requires : goal.put_oriented-requires
put_oriented-requires c = omega (arith, c.requires.1, c.loop-i.invariant.0, c.loop-i.invariant.1.long)

pub loop-i-preserved : goal.loop-i-preserved
loop-i-preserved c =
    let a = c.args in
    let got = c.orient-a.ensures.value ∙ ap (oriented_with (limit_of (length a.table.now)) a.kernel.now a.table.now a.n a.ix.now) c.question_at-q.ensures in (
      omega (arith, c.loop-i.invariant.0, c.put_oriented.ensures.upper_bound),
      put_more (limit_of (length a.table.now)) a.kernel.now a.table.now a.n a.ix.now a.asked.now a.m c.loop-i.i (omega arith) got c.loop-i.invariant.1 c.put_oriented.ensures.written,
    )

pub returns-clause-written : goal.returns-clause-written
returns-clause-written c =
    let a = c.args in last_turn (turns (limit_of (length a.table.now)) a.kernel.now a.table.now a.n a.ix.now a.asked.now) a.m c.loop-i.i tt (omega arith) c.loop-i.invariant.1

pub returns-clause-upper_bound : goal.returns-clause-upper_bound
returns-clause-upper_bound c = omega (arith, c.loop-i.invariant.0)
