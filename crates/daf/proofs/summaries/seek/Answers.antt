-- `daf::seek` meets its contract: the loop goes as `seek_of` recurses. Assumes nothing.
use mathlib.Core.Path.{sym, ◌∙◌}
use Prim.Native.Nat.{◌-◌}
use native.Mathlib.Omega.{arith}
use Rattle.daf.proofs.Counting.{sound_here, sound_next}
use Rattle.daf.proofs.Cursors.{seek_none, seek_here, seek_on}
use Rattle.daf.proofs.summaries.seek.Goals as goal

pub count_of-count-requires : goal.count_of-count-requires
count_of-count-requires c = sound_here c.args.kernel.now _ _ (c.loop-left.left - 1) (omega arith) c.loop-left.invariant.0

pub returns-then-count-gt0 : goal.returns-then-count-gt0
returns-then-count-gt0 c = sym (c.loop-left.invariant.1 ∙ seek_here _ _ _ (c.loop-left.left - 1) _ (omega arith) c.count_of-count.ensures c.if-count-gt0.true)

pub next_record-r-requires : goal.next_record-r-requires
next_record-r-requires c = sound_here c.args.kernel.now _ _ (c.loop-left.left - 1) (omega arith) c.loop-left.invariant.0

pub loop-left-preserved : goal.loop-left-preserved
loop-left-preserved c = (
  sound_next _ _ _ (c.loop-left.left - 1) _ (omega arith) c.next_record-r.ensures c.loop-left.invariant.0,
  c.loop-left.invariant.1 ∙ seek_on _ _ _ (c.loop-left.left - 1) _ _ (omega arith) c.count_of-count.ensures c.if-count-gt0.false c.next_record-r.ensures,
)

pub returns : goal.returns
returns c = sym (c.loop-left.invariant.1 ∙ seek_none _ _ _ (omega arith))
