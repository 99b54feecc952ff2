-- What is left are the lines of the segments from i on. Assumes nothing.
use Rattle.std.proofs.Common.{◌≤◌, ◌+◌, ◌*◌, ◌-◌}
use Rattle.lines.proofs.Texts.{Rest}
use Rattle.listing_text.specs.Rooms.{line_room}
use Rattle.listing_text.proofs.Texts.{lines_from}
use Rattle.listing_text.proofs.put_segments.Given as goal

abbrev pub invariant-loop-i : goal.invariant-loop-i
invariant-loop-i l =
    (l.page.at ≤ l.fn.page.at + line_room * l.i) × Rest l.fn.page (lines_from l.table 0 tt l.m) l.page (lines_from l.table l.i tt (l.m - l.i))
