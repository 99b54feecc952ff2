-- `cheby::ClearSeries::first_terms` meets its contract. The loop's invariant: k is j + 2, and the sums are those of k terms. Assumes nothing.
use Prim.Native.Nat.{ℕ, suc, ◌-◌, ◌%◌}
use mathlib.Core.Path.{◌≡◌, refl, subst}
use native.Mathlib.Omega.{arith}
use Rattle.cheby.specs.Steps.{Summed}
use Rattle.cheby.proofs.Laws.{begun_summed, turned_summed}
use Rattle.cheby.proofs.ClearSeries.first_terms.Goals as goal

pub loop-k-init : goal.loop-k-init
loop-k-init c = (0, refl, begun_summed _ _ _ _ c.row.ensures c.row-2.ensures c.begun-z.ensures)

pub loop-k-preserved : goal.loop-k-preserved
loop-k-preserved c =
    let inv = c.loop-k.invariant in
    (suc inv.0, omega arith, turned_summed _ _ _ _ inv.0 inv.1 c.row-in-loop-k.ensures inv.2 c.turned-z.ensures)

pub returns : goal.returns
returns c =
    let inv = c.loop-k.invariant in
    let a = c.args in
    let all : inv.0 ≡ (a.self.n - 2) % 4 = omega arith in
    subst (λ (j : ℕ). Summed a.self.kernel.now a.self.at a.self.n a.s j c.loop-k.z) all inv.2
