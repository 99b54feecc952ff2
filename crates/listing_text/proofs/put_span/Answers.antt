-- `listing_text::put_span` meets its contract: five texts, one after the other. Assumes nothing.
use borrow.Author.Rules.{rules}
use Rattle.lines.proofs.Texts.{then, told}
use Rattle.listing_text.specs.Lines.{span_text}
use Rattle.listing_text.proofs.put_span.Goals as goal

pub returns-clause-written : goal.returns-clause-written
unfolding span_text
returns-clause-written c =
    let x = c.args.s in then c.put_number.ensures.written
    (then c.put_number-2.ensures.written
    (then (told x.start (search rules) c.put_field.ensures.written) (then (told x.end (search rules) c.put_field-2.ensures.written) c.put_mark.ensures.written)))
