-- What is left are the lines of the questions from i on. Assumes nothing.
use Rattle.std.proofs.Common.{◌≤◌, ◌+◌, ◌*◌, ◌-◌, length}
use Rattle.table.specs.Places.{limit_of}
use Rattle.lines.proofs.Texts.{Rest}
use Rattle.orient_text.specs.Lines.{oriented_room}
use Rattle.orient_text.proofs.Turns.{lines_from}
use Rattle.orient_text.proofs.put_orientations.Given as goal

abbrev pub invariant-loop-i : goal.invariant-loop-i
invariant-loop-i l =
    (l.page.at ≤ l.fn.page.at + oriented_room * l.i)
    × Rest l.fn.page (lines_from (limit_of (length l.table)) l.kernel l.table l.n l.ix l.asked 0 tt l.m) l.page
    (lines_from (limit_of (length l.table)) l.kernel l.table l.n l.ix l.asked l.i tt (l.m - l.i))
