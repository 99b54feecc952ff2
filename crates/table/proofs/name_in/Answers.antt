-- `table::name_in` meets its contract: an answer for each way. Assumes nothing.
use mathlib.Core.Path.{◌∙◌, sym}
use Rattle.table.proofs.Names.{with_none, with_some}
use Rattle.table.proofs.name_in.Goals as goal

pub returns-then-n-number : goal.returns-then-n-number
returns-then-n-number c = sym (with_none _ _ _ _ c.if-n-number.true)

pub returns : goal.returns
returns c = c.name.ensures ∙ sym (with_some _ _ _ _ c.if-n-number.false)
