-- `listing_text::put_head` meets its contract: four fields, one after the other. Assumes nothing.
use borrow.Author.Rules.{rules}
use Rattle.lines.proofs.Texts.{then, told}
use Rattle.listing_text.specs.Lines.{head_text}
use Rattle.listing_text.proofs.put_head.Goals as goal

pub returns-clause-written : goal.returns-clause-written
unfolding head_text
returns-clause-written c =
    let x = c.args.s in then (told x.target (search rules) c.put_field.ensures.written)
    (then (told x.center (search rules) c.put_field-2.ensures.written)
    (then (told x.frame (search rules) c.put_field-3.ensures.written) (told x.data_type (search rules) c.put_field-4.ensures.written)))
