-- What is left are the lines of the questions from i on, with what is remembered there. Assumes nothing.
use Rattle.std.proofs.Common.{◌≤◌, ◌+◌, ◌*◌, ◌-◌, length, None}
use Rattle.daf.specs.declared.Family.TheVariants.{Spk}
use Rattle.segment.specs.Evaluating.{evaluated}
use Rattle.table.specs.Places.{limit_of}
use Rattle.lines.proofs.Texts.{Rest}
use Rattle.ask_text.specs.Lines.{answer_room}
use Rattle.ask_text.proofs.Turns.{lines_from}
use Rattle.ask_text.proofs.put_answers.Given as goal

abbrev pub invariant-loop-i : goal.invariant-loop-i
invariant-loop-i l =
    (l.page.at ≤ l.fn.page.at + answer_room * l.i)
    × Rest l.fn.page (lines_from (limit_of (length l.table)) (evaluated Spk l.kernel) l.table l.n l.ix l.wanted l.rot l.asked 0 None l.m) l.page
    (lines_from (limit_of (length l.table)) (evaluated Spk l.kernel) l.table l.n l.ix l.wanted l.rot l.asked l.i l.memory (l.m - l.i))
