-- `hermite::hermite_at` meets its contract: the array agrees with the kernel on the doubled nodes, and the definition reads no further. Assumes nothing.
use Rattle.hermite.specs.Axes.{hermite_at}
use Rattle.hermite.proofs.Same.{axis_from_kernel}
use Rattle.hermite.proofs.hermite_at.Goals as goal

pub returns : goal.returns
unfolding hermite_at
returns c =
    let args = c.args in
    let axis = axis_from_kernel args.kernel.now args.e args.c args.x c.nodes_at.new.z (record { same = c.nodes_at.ensures.1 }) c.requires.0 in
    rw (axis _ _ c.axis_at-a.ensures.1, axis _ _ c.axis_at-b.ensures.1, axis _ _ c.axis_at-d.ensures.1)
