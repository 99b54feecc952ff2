-- `cheby::state3_clear` meets its contract, as `type3_at` does: the doubles are known to be numbers.
use Prim.Native.Nat.{◌+◌, ◌*◌}
use native.Mathlib.Omega.{arith}
use Rattle.cheby.proofs.Numbers.{clear_at, numbers_part}
use Rattle.cheby.proofs.Record.{type3_both}
use Rattle.cheby.proofs.state3_clear.Goals as goal

pub clear_at-mid-requires : goal.clear_at-mid-requires
clear_at-mid-requires c =
    let a = c.args in
    (omega arith, clear_at a.kernel.now a.p (2 + 6 * a.n) 0 a.p c.requires.2 (omega arith) (omega arith))

pub clear_at-radius-requires : goal.clear_at-radius-requires
clear_at-radius-requires c =
    let a = c.args in
    (omega arith, clear_at a.kernel.now a.p (2 + 6 * a.n) 1 (a.p + 8) c.requires.2 (omega arith) (omega arith))

pub invariant_of-series : goal.invariant_of-series
invariant_of-series c =
    let a = c.args in
    record {
      fits = omega arith;
      two = omega arith;
      clear = numbers_part a.kernel.now a.p (2 + 6 * a.n) (a.p + 16) 2 (6 * a.n) c.requires.2 (omega arith) (omega arith);
    }

pub returns : goal.returns
returns c =
    let call = c.val-r.ensures in
    type3_both _ _ _ _ c.clear_at-mid.ensures c.clear_at-radius.ensures call.0 call.1 c.joined.ensures
