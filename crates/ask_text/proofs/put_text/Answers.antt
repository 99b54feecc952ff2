-- `ask_text::put_text` meets its contract: the page is the buffer. Assumes nothing.
use mathlib.Core.Path.{ap}
use mir.Syntax.{w32}
use mir.ValLaws.{to_z-of_z}
use borrow.Author.Rules.{rules}
use Rattle.lines.proofs.Texts.{left}
use Rattle.ask_text.specs.Text.{ask_text}
use Rattle.ask_text.proofs.put_text.Goals as goal

pub returns-clause-written : goal.returns-clause-written
returns-clause-written c =
    let a = c.args in
    rw (← (ap (ask_text a.kernel.now a.asked.now a.matrix.now) (to_z-of_z w32 a.frame c.ranges.frame))) (left c.put_reply.ensures.written (search rules))
