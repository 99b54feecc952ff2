-- `ask_text::put_answers` meets its contract. Assumes nothing.
use Rattle.std.proofs.Common.{◌∙◌, length, None, ap, arith}
use Rattle.daf.specs.declared.Family.TheVariants.{Spk}
use Rattle.segment.specs.Evaluating.{evaluated}
use Rattle.table.specs.Places.{limit_of}
use Rattle.indexed.specs.Asking.{asked_in_with}
use Rattle.lines.proofs.Texts.{first_turn, last_turn}
use Rattle.ask_text.proofs.Turns.{lines_from, turns, put_more}
use Rattle.ask_text.proofs.put_answers.Goals as goal

pub loop-i-init : goal.loop-i-init
loop-i-init c =
    let a = c.args in
    (omega arith, first_turn (lines_from (limit_of (length a.table.now)) (evaluated Spk a.kernel.now) a.table.now a.n a.ix.now a.wanted a.rot a.asked.now) a.m a.page.now None)

pub question_at-q-requires : goal.question_at-q-requires
question_at-q-requires c = omega (arith, c.requires.0)

pub put_answer-requires : goal.put_answer-requires
put_answer-requires c = omega (arith, c.requires.1, c.loop-i.invariant.0, c.loop-i.invariant.1.long)

pub loop-i-preserved : goal.loop-i-preserved
loop-i-preserved c =
    let a = c.args in
    let got = c.state_in-r.ensures.value ∙ ap (λ q. asked_in_with (limit_of (length a.table.now)) (evaluated Spk a.kernel.now) a.table.now a.n a.ix.now c.loop-i.memory q a.wanted a.rot) c.question_at-q.ensures in (
      omega (arith, c.loop-i.invariant.0, c.put_answer.ensures.upper_bound),
      put_more (limit_of (length a.table.now)) (evaluated Spk a.kernel.now) a.table.now a.n a.ix.now a.wanted a.rot a.asked.now a.m c.loop-i.i c.loop-i.memory (omega arith) got c.loop-i.invariant.1 c.put_answer.ensures.written,
    )

pub returns-clause-written : goal.returns-clause-written
returns-clause-written c =
    let a = c.args in
    last_turn (turns (limit_of (length a.table.now)) (evaluated Spk a.kernel.now) a.table.now a.n a.ix.now a.wanted a.rot a.asked.now) a.m c.loop-i.i c.loop-i.memory (omega arith) c.loop-i.invariant.1

pub returns-clause-upper_bound : goal.returns-clause-upper_bound
returns-clause-upper_bound c = omega (arith, c.loop-i.invariant.0)
