-- `cheby::state2_clear` meets its contract, as `state2_any` does: the doubles are known to be numbers.
use Prim.Native.Nat.{◌+◌, ◌*◌}
use native.Mathlib.Omega.{arith}
use Rattle.cheby.proofs.Numbers.{clear_at, numbers_part}
use Rattle.cheby.proofs.Record.{type2_some}
use Rattle.cheby.proofs.state2_clear.Goals as goal

pub clear_at-mid-requires : goal.clear_at-mid-requires
clear_at-mid-requires c =
    let a = c.args in
    (omega arith, clear_at a.kernel.now a.p (2 + 3 * a.n) 0 a.p c.requires.3 (omega arith) (omega arith))

pub clear_at-radius-requires : goal.clear_at-radius-requires
clear_at-radius-requires c =
    let a = c.args in
    (omega arith, clear_at a.kernel.now a.p (2 + 3 * a.n) 1 (a.p + 8) c.requires.3 (omega arith) (omega arith))

pub invariant_of-series : goal.invariant_of-series
invariant_of-series c =
    let a = c.args in
    record {
      fits = omega arith;
      two = omega arith;
      clear = numbers_part a.kernel.now a.p (2 + 3 * a.n) (a.p + 16) 2 (3 * a.n) c.requires.3 (omega arith) (omega arith);
    }

pub returns : goal.returns
returns c =
    let call = c.val_and_deriv-v.ensures in
    type2_some _ _ _ _ c.clear_at-mid.ensures c.clear_at-radius.ensures c.requires.2 call.0 call.1 c.times.ensures c.joined.ensures
