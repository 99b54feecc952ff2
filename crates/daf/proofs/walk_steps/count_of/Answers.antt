-- `daf::count_of` meets its contract. Assumes nothing.
use mathlib.Core.Path.{ap, ◌∙◌}
use lib.Ieee.{to_unsigned}
use Rattle.daf.specs.Walk.{count_of}
use Rattle.daf.proofs.walk_steps.count_of.Goals as goal

pub returns : goal.returns
unfolding count_of
returns c = c.cut_u64.ensures ∙ ap (to_unsigned 64) c.double_at.ensures
