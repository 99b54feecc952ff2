-- `listing_text::put_mark` meets its contract: the word, then the newline. Assumes nothing.
use Rattle.lines.proofs.Texts.{then}
use Rattle.listing_text.specs.Lines.{mark_text}
use Rattle.listing_text.proofs.put_mark.Goals as goal

pub returns-clause-written : goal.returns-clause-written
unfolding mark_text
returns-clause-written c = then c.put_yes.ensures.written c.put.ensures
