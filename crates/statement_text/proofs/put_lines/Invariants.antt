-- The first lines stand in the page. Assumes nothing.
use Prim.Native.Nat.{◌+◌, ◌*◌, ◌≤◌}
use lib.ListN.{take}
use Rattle.lines.specs.Written.{Put}
use Rattle.statement_text.specs.Text.{lines_text}
use Rattle.statement_text.proofs.put_lines.Given as goal

abbrev pub invariant-loop-line : goal.invariant-loop-line
invariant-loop-line l = (l.page.at ≤ l.initial.page.at + 42 * l.line-index) × Put l.initial.page (lines_text (take l.line-index l.known)) l.page
