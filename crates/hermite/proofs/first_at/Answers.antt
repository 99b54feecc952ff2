-- `hermite::first_at` meets its contract, by the parity of the place. Assumes nothing.
use Prim.Native.Nat.{◌+◌}
use mathlib.Core.Path.{◌∙◌}
use Rattle.bits.specs.F64.{at}
use Rattle.bits.specs.Bytes.{every}
use Rattle.hermite.proofs.Table.{first_even, first_odd}
use borrow.Author.Rules.{rules}
use Rattle.hermite.proofs.first_at.Goals as goal

pub returns-then-i-eq0 : goal.returns-then-i-eq0
returns-then-i-eq0 c =
    let args = c.args in
    let s = args.kernel.now in
    c.double_at.ensures ∙ first_even (at args.z.now) (every 48 s args.q) (every 48 s (args.q + 24)) args.i c.if-i-eq0.true

pub returns : goal.returns
returns c =
    let args = c.args in
    let s = args.kernel.now in
    rw (c.double_at-2.ensures, c.double_at-3.ensures)
    (first_odd (at args.z.now) (every 48 s args.q) (every 48 s (args.q + 24)) args.i c.if-i-eq0.false)
