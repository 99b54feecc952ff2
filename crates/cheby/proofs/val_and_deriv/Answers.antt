-- `cheby::val_and_deriv` meets its contract. The loop's invariant: k is j + 2, and the sums are those of k terms. Assumes nothing.
use Prim.Native.Nat.{suc}
use mathlib.Core.Path.{refl, ◌∙◌}
use native.Mathlib.Omega.{arith}
use Rattle.cheby.proofs.Laws.{slopes_few, begun_summed, turned_summed, summed_all}
use Rattle.cheby.proofs.val_and_deriv.Goals as goal

pub returns-then-n-lt2 : goal.returns-then-n-lt2
returns-then-n-lt2 c = (c.val_of_few.ensures _, c.zeros.ensures ∙ slopes_few _ _ _ _ c.if-n-lt2.true)

pub loop-k-init : goal.loop-k-init
loop-k-init c = (0, refl, begun_summed _ _ _ _ c.row_at.ensures c.row_at-2.ensures c.begun-z.ensures)

pub loop-k-preserved : goal.loop-k-preserved
loop-k-preserved c =
    let inv = c.loop-k.invariant in
    (suc inv.0, omega arith, turned_summed _ _ _ _ inv.0 inv.1 c.row_at-in-loop-k.ensures inv.2 c.turned-z.ensures)

pub returns : goal.returns
returns c = summed_all _ _ _ _ _ (omega arith) c.loop-k.invariant.2
