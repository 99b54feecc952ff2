-- `hermite::axis_at` meets its contract: a turn adds the orders 2 j and 2 j + 1. Assumes nothing.
use Prim.Native.Nat.{◌+◌, ◌*◌, ◌-◌}
use mathlib.Core.Path.{◌≡◌, sym, ap, ◌∙◌}
use native.Mathlib.Nat.{add-zero}
use native.Mathlib.Omega.{arith}
use Rattle.bits.specs.Bytes.{double_at, every}
use Rattle.hermite.proofs.Table.{at_start, after_turn, at_end}
use Rattle.hermite.proofs.axis_at.Goals as goal

pub loop-j-init : goal.loop-j-init
loop-j-init c =
    let column = c.first_column.ensures in
    let args = c.args in
    let s = args.kernel.now in
    let first : double_at s args.q ≡ every 48 s args.q 0 = ap (double_at s) (sym (add-zero args.q)) in
    (column.0, at_start (omega arith) (c.double_at.ensures ∙ first) column.1 c.with_term-s.ensures)

pub loop-j-preserved : goal.loop-j-preserved
loop-j-preserved c =
    let even = c.next_column in
    let odd = c.next_column-in-loop-j in
    let j = c.loop-j.j in
    let order : 2 * (j + 1) - 1 ≡ 2 * j + 1 = omega arith in
    let half = after_turn (2 * j - 1) (omega arith) (omega arith) (omega arith) c.loop-j.invariant.1 even.ensures.1 c.with_term-s-in-loop-j.ensures in
    (odd.ensures.0, rw order (after_turn (2 * j) (omega arith) (omega arith) (omega arith) half odd.ensures.1 c.with_term-s-in-loop-j-2.ensures))

pub returns : goal.returns
returns c =
    let inv = c.loop-j.invariant in
    (inv.0, at_end c.args.c (omega arith) inv.1)
