-- `tally::put_in` meets its contract: the lines are copied one place up, and the new one is put into the gap. Assumes nothing.
use mathlib.Core.Path.{ap, ◌∙◌}
use mathlib.Core.List.{List}
use native.Mathlib.Omega.{arith}
use lib.ListN.{set}
use Rattle.tally.specs.declared.Line.{Line}
use Rattle.tally.proofs.Moved.{moved_up}
use Rattle.tally.proofs.put_in.Goals as goal

pub returns : goal.returns
returns c =
    ap (λ (l : List Line). set l c.args.at c.args.line) c.copy_within.ensures.after
    ∙ moved_up c.args.lines.now c.args.n c.args.at c.args.line (omega arith) (omega arith)
