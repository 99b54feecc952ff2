-- `cheby::ClearSeries::row` meets its contract: each field is what one call ensures, and the three doubles are among those that are known to be numbers.
use Prim.Native.Nat.{◌+◌, ◌*◌}
use native.Mathlib.Omega.{arith}
use Rattle.cheby.proofs.Numbers.{clear_at}
use Rattle.cheby.proofs.ClearSeries.row.Goals as goal

pub clear_at-requires : goal.clear_at-requires
clear_at-requires c =
    let args = c.args in
    (omega arith, clear_at args.self.kernel.now args.self.at (3 * args.self.n) args.k _ c.args.self.clear (omega arith) (omega arith))

pub clear_at-requires-2 : goal.clear_at-requires-2
clear_at-requires-2 c =
    let args = c.args in
    (omega arith, clear_at args.self.kernel.now args.self.at (3 * args.self.n) (args.self.n + args.k) _ c.args.self.clear (omega arith) (omega arith))

pub clear_at-requires-3 : goal.clear_at-requires-3
clear_at-requires-3 c =
    let args = c.args in
    (omega arith, clear_at args.self.kernel.now args.self.at (3 * args.self.n) (2 * args.self.n + args.k) _ c.args.self.clear (omega arith) (omega arith))
