-- `table::limit_of` meets its contract: the definition is the smaller of the two. Assumes nothing.
use mathlib.Core.Path.{◌∙◌}
use Rattle.table.proofs.Limits.{limit_min}
use Rattle.table.proofs.limit_of.Goals as goal

pub returns : goal.returns
returns c = c.min.ensures ∙ limit_min c.args.places
