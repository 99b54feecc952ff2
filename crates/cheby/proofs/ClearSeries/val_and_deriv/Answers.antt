-- `cheby::ClearSeries::val_and_deriv` meets its contract: a turn adds four terms. Assumes nothing.
use Prim.Native.Nat.{suc, ◌+◌, ◌-◌, ◌*◌, ◌%◌}
use mathlib.Core.Path.{◌≡◌}
use native.Mathlib.Nat.{add-zero}
use native.Mathlib.Omega.{arith}
use Rattle.cheby.proofs.Laws.{turned_summed, summed_all}
use Rattle.cheby.proofs.ClearSeries.val_and_deriv.Goals as goal

pub loop-i-init : goal.loop-i-init
loop-i-init c = rw add-zero c.first_terms-z.ensures

pub loop-i-preserved : goal.loop-i-preserved
loop-i-preserved c =
    let n = c.args.self.n in
    let i = c.loop-i.i in
    let j = (n - 2) % 4 + 4 * i in
    let s₁ = turned_summed _ _ _ _ j (omega arith) c.row.ensures c.loop-i.invariant c.turned-z.ensures in
    let s₂ = turned_summed _ _ _ _ (suc j) (omega arith) c.row-in-loop-i.ensures s₁ c.turned-z-in-loop-i.ensures in
    let s₃ = turned_summed _ _ _ _ (suc (suc j)) (omega arith) c.row-in-loop-i-2.ensures s₂ c.turned-z-in-loop-i-2.ensures in
    let s₄ = turned_summed _ _ _ _ (suc (suc (suc j))) (omega arith) c.row-in-loop-i-3.ensures s₃ c.turned-z-in-loop-i-3.ensures in
    let four : (n - 2) % 4 + 4 * (i + 1) ≡ suc (suc (suc (suc j))) = omega arith in
    rw four s₄

pub returns : goal.returns
returns c = summed_all _ _ _ _ _ (omega arith) c.loop-i.invariant
