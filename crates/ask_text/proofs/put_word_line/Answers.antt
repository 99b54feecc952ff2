-- `ask_text::put_word_line` meets its contract: three texts, one after the other. Assumes nothing.
use Rattle.lines.proofs.Texts.{then}
use Rattle.ask_text.specs.Lines.{word_line}
use Rattle.ask_text.proofs.put_word_line.Goals as goal

pub returns-clause-written : goal.returns-clause-written
unfolding word_line
returns-clause-written c = then c.put_decimal.ensures.written (then c.put.ensures c.put_tail.ensures.written)
