-- `bits::reach_of` meets its contract: below 0 before the records, and else by the whole part at 64 bits. Assumes nothing.
use native.Mathlib.Omega.{arith}
use Rattle.bits.proofs.Reaching.{before_all, inside_all, after_all}
use Rattle.bits.proofs.reach_of.Goals as goal

pub returns-then-q : goal.returns-then-q
returns-then-q c = before_all _ _ c.if-q.true

pub returns-then-cut_u64-n : goal.returns-then-cut_u64-n
returns-then-cut_u64-n c = inside_all _ _ (omega arith) c.if-q.false (omega arith)

pub returns : goal.returns
returns c = after_all _ _ (omega arith) (omega arith) c.if-q.false (omega arith)
