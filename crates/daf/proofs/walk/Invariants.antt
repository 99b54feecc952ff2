-- `daf::walk` meets its contract: it runs as `counting` does, which is the walk of the definition (`walk_twice`). Assumes nothing.
use mathlib.Core.Path.{◌≡◌}
use Prim.Native.Nat.{◌-◌, ◌/◌, ◌≤◌}
use lib.ListN.{length}
use Rattle.daf.proofs.Walking.{counting}
use Rattle.daf.proofs.walk.Given as goal

abbrev pub invariant-loop-n : goal.invariant-loop-n
invariant-loop-n l =
    let most = length l.kernel / 1024 in
    (l.most ≡ most) × (l.n ≤ most) × (counting l.kernel 0 most l.first ≡ counting l.kernel l.n (most - l.n) l.r)
