-- `listing_text::put_count` meets its contract: the word, the number, the newline. Assumes nothing.
use Rattle.lines.proofs.Texts.{then}
use Rattle.listing_text.specs.Lines.{count_text}
use Rattle.listing_text.proofs.put_count.Goals as goal

pub returns-clause-written : goal.returns-clause-written
unfolding count_text
returns-clause-written c = then c.put.ensures (then c.put_decimal.ensures.written c.put-2.ensures)
