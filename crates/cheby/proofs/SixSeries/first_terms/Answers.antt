-- `cheby::SixSeries::first_terms` meets its contract. The loop's invariant: k is j + 2, and the sums are those of k terms. Assumes nothing.
use Prim.Native.Nat.{ℕ, suc, ◌+◌, ◌-◌, ◌*◌, ◌%◌}
use mathlib.Core.Path.{◌≡◌, refl, subst}
use native.Mathlib.Omega.{arith}
use Rattle.cheby.specs.Cheby.{T, series_at}
use Rattle.cheby.specs.Steps.{SixSummed}
use Rattle.cheby.proofs.Laws.{each_at, six_summed}
use Rattle.cheby.proofs.SixSeries.first_terms.Goals as goal

pub loop-k-init : goal.loop-k-init
unfolding T
loop-k-init c = (0, refl, record { before = refl; last = refl; first = each_at (λ f. series_at f 2 c.args.s) c.first.ensures c.two_terms.ensures; second = each_at (λ f. series_at f 2 c.args.s) c.second.ensures c.two_terms-2.ensures })

pub loop-k-preserved : goal.loop-k-preserved
loop-k-preserved c =
    let inv = c.loop-k.invariant in
    (suc inv.0, omega arith, six_summed _ _ _ _ _ inv.0 inv.1 inv.2 c.turned-z.ensures)

pub returns : goal.returns
returns c =
    let inv = c.loop-k.invariant in
    let a = c.args in
    let all : inv.0 ≡ (a.self.n - 2) % 4 = omega arith in
    subst (λ (j : ℕ). SixSummed a.self.kernel.now a.self.at (a.self.at + 24 * a.self.n) a.self.n a.s j c.loop-k.z) all inv.2
