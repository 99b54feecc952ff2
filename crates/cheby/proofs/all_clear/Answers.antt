-- `cheby::all_clear` meets its contract: a turn adds the next eight doubles, and the end the last eight. Assumes nothing.
use Prim.Native.Nat.{◌+◌, ◌*◌, ◌-◌}
use mathlib.Core.Path.{refl}
use native.Mathlib.Omega.{arith}
use Rattle.cheby.specs.Steps.{all_numbers}
use Rattle.cheby.proofs.Numbers.{numbers_joined}
use Rattle.cheby.proofs.all_clear.Goals as goal

pub loop-i-init : goal.loop-i-init
unfolding all_numbers
loop-i-init c = λ h. refl

pub loop-i-preserved : goal.loop-i-preserved
loop-i-preserved c = λ h.
    let a = c.args in
    let i = c.loop-i.i in
    let eight = c.less_eight-z.ensures h in
    numbers_joined a.kernel.now a.p (8 * (i + 1)) (8 * i) _ (8 * i) 8 (c.loop-i.invariant eight.0) eight.1 (omega arith) (omega arith) (omega arith)

pub returns : goal.returns
returns c = λ h.
    let a = c.args in
    let eight = c.less_eight.ensures (c.all_finite.ensures h) in
    numbers_joined a.kernel.now a.p a.m (8 * c.loop-i.i) _ (a.m - 8) 8 (c.loop-i.invariant eight.0) eight.1 (omega arith) (omega arith) (omega arith)
