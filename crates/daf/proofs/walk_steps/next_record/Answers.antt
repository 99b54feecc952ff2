-- `daf::next_record` meets its contract. Assumes nothing.
use mathlib.Core.Path.{ap, ◌∙◌}
use lib.Ieee.{to_unsigned}
use Rattle.daf.specs.Walk.{next_of}
use Rattle.daf.proofs.walk_steps.next_record.Goals as goal

pub returns : goal.returns
unfolding next_of
returns c = c.cut_u32.ensures ∙ ap (to_unsigned 32) c.double_at.ensures
