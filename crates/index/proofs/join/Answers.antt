-- `index::join` meets its contract: both halves, by what each call says. Assumes nothing.
use Rattle.std.proofs.Common.{rules}
use Rattle.index.specs.Parts.{joined_down, joined_up}
use Rattle.index.proofs.join.Goals as goal

pub returns : goal.returns
unfolding joined_down joined_up
returns c = search rules
