-- `orient_text::put_turned` meets its contract: three texts, one after the other. Assumes nothing.
use borrow.Author.Rules.{rules}
use Rattle.lines.proofs.Texts.{then, told}
use Rattle.orient_text.specs.Lines.{turned_text}
use Rattle.orient_text.proofs.put_turned.Goals as goal

pub returns-clause-written : goal.returns-clause-written
unfolding turned_text
returns-clause-written c = then c.put_decimal.ensures.written (then (told c.args.a.frame (search rules) c.put_field.ensures.written) c.put_tail.ensures.written)
