-- `statement_text::put_line` meets its contract: the two numbers, a space between and the newline after. Assumes nothing.
use Rattle.lines.proofs.Texts.{then}
use Rattle.statement_text.proofs.put_line.Goals as goal

pub returns-clause-written : goal.returns-clause-written
returns-clause-written c = then c.put_decimal.ensures.written (then c.put.ensures (then c.put_decimal-2.ensures.written c.put-2.ensures))
