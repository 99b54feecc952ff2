-- `index::part` meets its contract: as many numbers as a part has. Assumes nothing.
use mathlib.Core.Path.{ap}
use Prim.Native.Nat.{ℕ, ◌+◌, ◌-◌, ◌/◌}
use native.Mathlib.Omega.{arith}
use lib.ListN.{length, take, drop}
use Rattle.index.proofs.part.Goals as goal

pub returns : goal.returns
returns c =
    let ix = c.args.ix.now in
    let a = c.args.a in
    let m = length ix / 4 in
    ap (λ (k : ℕ). take k (drop a ix)) {x = (a + m) - a} {y = m} (omega arith)
