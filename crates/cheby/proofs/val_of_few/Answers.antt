-- `cheby::val_of_few` meets its contract: no coefficient gives +0, and one itself.
use mathlib.Core.Path.{◌≡◌}
use native.Mathlib.Omega.{arith}
use Rattle.cheby.specs.Cheby.{series_at}
use Rattle.cheby.proofs.val_of_few.Goals as goal

pub returns-then-n-eq0 : goal.returns-then-n-eq0
unfolding series_at
returns-then-n-eq0 c s = rw (c.zeros.ensures, c.if-n-eq0.true)

pub returns-else-n-eq0 : goal.returns-else-n-eq0
unfolding series_at
returns-else-n-eq0 c s =
    let one : c.args.n ≡ 1 = omega arith in
    rw (c.row_at.ensures, one)
