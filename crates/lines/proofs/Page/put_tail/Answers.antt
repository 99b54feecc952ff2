-- `lines::Page::put_tail` meets its contract: the word, the state, then the newline. Assumes nothing.
use Rattle.lines.proofs.Texts.{then}
use Rattle.lines.specs.Text.{tail_text}
use Rattle.lines.proofs.Page.put_tail.Goals as goal

pub returns-clause-written : goal.returns-clause-written
unfolding tail_text
returns-clause-written c = then c.put_yes.ensures.written (then c.put_state.ensures.written c.put.ensures)
