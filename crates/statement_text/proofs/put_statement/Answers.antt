-- `statement_text::put_statement` meets its contract: the page is the buffer. Assumes nothing.
use borrow.Author.Rules.{rules}
use Rattle.lines.proofs.Texts.{left}
use Rattle.statement_text.proofs.put_statement.Goals as goal

pub returns-clause-written : goal.returns-clause-written
returns-clause-written c = left c.put_whole.ensures.written (search rules)
