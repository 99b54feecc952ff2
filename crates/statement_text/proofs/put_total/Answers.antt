-- `statement_text::put_total` meets its contract: the word, the number and the newline. Assumes nothing.
use Rattle.lines.proofs.Texts.{then}
use Rattle.statement_text.proofs.put_total.Goals as goal

pub returns-clause-written : goal.returns-clause-written
returns-clause-written c = then c.put.ensures (then c.put_decimal.ensures.written c.put-2.ensures)
