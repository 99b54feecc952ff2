-- `ask_text::put_named_line` meets its contract: four texts, one after the other. Assumes nothing.
use Rattle.lines.proofs.Texts.{then}
use Rattle.ask_text.specs.Lines.{named_line}
use Rattle.ask_text.proofs.put_named_line.Goals as goal

pub returns-clause-written : goal.returns-clause-written
unfolding named_line
returns-clause-written c =
    then c.put_decimal.ensures.written (then c.put.ensures (then c.put_decimal-2.ensures.written c.put_tail.ensures.written))
