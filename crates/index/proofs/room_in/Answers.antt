-- `index::room_in` meets its contract: an `&&` of two tests. Assumes nothing.
use borrow.Author.Tests.{lt-ltb, le-ltb}
use Rattle.bits.proofs.Tests.{and_yes, and_no}
use Rattle.index.specs.Parts.{room_in}
use Rattle.index.proofs.room_in.Goals as goal

pub returns-then-m-gt0 : goal.returns-then-m-gt0
unfolding room_in
returns-then-m-gt0 c = and_yes _ _ (lt-ltb _ _ c.if-m-gt0.true)

pub returns-else-m-gt0 : goal.returns-else-m-gt0
unfolding room_in
returns-else-m-gt0 c = and_no _ _ (le-ltb _ _ c.if-m-gt0.false)
