-- `cheby::less_four` meets its contract, one sum at a time. Assumes nothing.
use Rattle.cheby.proofs.Numbers.{all_four, numbers_four}
use Rattle.cheby.proofs.less_four.Goals as goal

pub returns : goal.returns
returns c = λ h.
    let t = all_four _ _ _ _ h in
    let a = c.less_power.ensures t.0 in
    let b = c.less_power-2.ensures t.1 in
    let g = c.less_power-3.ensures t.2 in
    let d = c.less_power-4.ensures t.3 in
    (rw (a.0, b.0, g.0, d.0), numbers_four _ _ a.1 b.1 g.1 d.1)
