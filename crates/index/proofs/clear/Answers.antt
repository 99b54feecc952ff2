-- `index::clear` meets its contract: after i turns the first i buckets of both halves are empty. Assumes nothing.
use mathlib.Core.Path.{refl}
use lib.ListN.{length-set}
use Rattle.index.specs.Parts.{emptied}
use Rattle.index.proofs.Parts.{emptied_turn}
use Rattle.index.proofs.clear.Goals as goal

pub loop-i-init : goal.loop-i-init
unfolding emptied
loop-i-init c = (refl, refl, refl)

pub loop-i-preserved : goal.loop-i-preserved
loop-i-preserved c =
    let at = c.loop-i in (
      rw length-set (rw length-set at.invariant.0),
      at.invariant.1,
      emptied_turn c.args.ix.now _ _ _ at.invariant.1 at.invariant.2,
    )
