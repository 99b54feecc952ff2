-- `bits::reach_of_few` meets its contract: below 0 before the records, from n on after them, and neither inside. Assumes nothing.
use native.Mathlib.Omega.{arith}
use Rattle.bits.proofs.Few.{is_whole, part_least, part_short}
use Rattle.bits.proofs.Reaching.{before_all, inside_all, after_all}
use Rattle.bits.proofs.reach_of_few.Goals as goal

pub returns-then-q : goal.returns-then-q
returns-then-q c = before_all _ _ c.if-q.true

pub returns-then-whole_double-q : goal.returns-then-whole_double-q
returns-then-whole_double-q c =
    let a = c.args in
    let y = c.whole_double in
    after_all a.q a.n (omega arith) (omega arith) c.if-q.false
    (part_least a.q y.result a.n (omega arith) (omega arith) (is_whole y.result a.n (omega arith) y.ensures) c.if-whole_double-q.true)

pub returns : goal.returns
returns c =
    let a = c.args in
    let y = c.whole_double in
    inside_all a.q a.n (omega arith) c.if-q.false
    (part_short a.q y.result a.n (omega arith) (is_whole y.result a.n (omega arith) y.ensures) c.if-whole_double-q.false)
