-- `listing_text::put_segment` meets its contract: three texts, one after the other. Assumes nothing.
use Rattle.lines.proofs.Texts.{then}
use Rattle.listing_text.specs.Lines.{segment_text}
use Rattle.listing_text.proofs.put_segment.Goals as goal

pub returns-clause-written : goal.returns-clause-written
unfolding segment_text
returns-clause-written c = then c.put_decimal.ensures.written (then c.put_head.ensures.written c.put_span.ensures.written)
