-- `cheby::SixSeries::second` meets its contract: none of the last three of six series is a NaN. Assumes nothing.
use Prim.Native.Nat.{◌+◌, ◌*◌}
use native.Mathlib.Omega.{arith}
use Rattle.cheby.proofs.Numbers.{numbers_part}
use Rattle.cheby.proofs.SixSeries.second.Goals as goal

pub invariant_of-result : goal.invariant_of-result
invariant_of-result c =
    let a = c.args.self in
    record {
      fits = omega arith;
      two = omega arith;
      clear = numbers_part a.kernel.now a.at (6 * a.n) (a.at + 24 * a.n) (3 * a.n) (3 * a.n) a.clear (omega arith) (omega arith);
    }
