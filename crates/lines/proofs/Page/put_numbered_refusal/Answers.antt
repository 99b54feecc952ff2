-- `lines::Page::put_numbered_refusal` meets its contract: the number, a space and the refusal's line, one after the other. Assumes nothing.
use Rattle.lines.specs.Text.{numbered_refusal_text}
use Rattle.lines.proofs.Texts.{then}
use Rattle.lines.proofs.Page.put_numbered_refusal.Goals as goal

pub returns-clause-written : goal.returns-clause-written
unfolding numbered_refusal_text
returns-clause-written c = then c.put_decimal.ensures.written (then c.put.ensures c.put_refusal.ensures.written)
