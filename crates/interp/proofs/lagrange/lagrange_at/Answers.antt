-- `interp::lagrange::lagrange_at` meets its contract: the array agrees with the kernel on the first c places, and the definition reads no further. Assumes nothing.
use mathlib.Core.Path.{refl, sym, ◌∙◌}
use native.Mathlib.Omega.{arith}
use Rattle.interp.proofs.Blend.{node_found, node_missing}
use Rattle.interp.proofs.Same.{stored_at, blend_at}
use Rattle.interp.proofs.lagrange.lagrange_at.Goals as goal

pub returns-in-Some : goal.returns-in-Some
returns-in-Some c =
    let node = node_found c.epochs_at-xs.result c.args.x c.args.c (omega arith) (sym c.in-Some.is ∙ c.node_at.ensures) in
    rw c.state_at.ensures (stored_at _ _ _ _ _ _ (record { same = c.epochs_at-xs.ensures }) node.0 node.1)

pub returns-in-None : goal.returns-in-None
returns-in-None c =
    let none = node_missing c.epochs_at-xs.result c.args.x c.args.c (omega arith) (sym c.in-None.is ∙ c.node_at.ensures) in
    rw c.blend.ensures (blend_at _ _ _ _ _ _ (record { same = c.epochs_at-xs.ensures }) refl none)
