-- `cheby::less_eight` meets its contract: four doubles, and the four after them. Assumes nothing.
use native.Mathlib.Omega.{arith}
use Rattle.cheby.proofs.Numbers.{numbers_joined}
use Rattle.cheby.proofs.less_eight.Goals as goal

pub returns : goal.returns
returns c = λ h.
    let args = c.args in
    let second = c.less_four-2.ensures h in
    let first = c.less_four.ensures second.0 in
    (first.0, numbers_joined args.kernel.now args.at 8 4 _ 4 4 first.1 second.1 (omega arith) (omega arith) (omega arith))
