-- `lines::Page::put_state` meets its contract: six numbers, one after the other. Assumes nothing.
use Rattle.lines.specs.Text.{state_text}
use Rattle.lines.proofs.Texts.{then}
use Rattle.lines.proofs.Page.put_state.Goals as goal

pub returns-clause-written : goal.returns-clause-written
unfolding state_text
returns-clause-written c =
    then c.put_number.ensures.written
    (then c.put_number-2.ensures.written
    (then c.put_number-3.ensures.written
    (then c.put_number-4.ensures.written (then c.put_number-5.ensures.written c.put_number-6.ensures.written))))
