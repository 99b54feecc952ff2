-- `interp::lagrange::blend` meets its contract. Assumes nothing.
use mathlib.Core.Path.{◌≡◌, refl}
use native.Mathlib.Omega.{arith}
use Rattle.bits.specs.F64.{at}
use Rattle.bits.specs.Bytes.{every}
use Rattle.frame.specs.State.{zero_state}
use Rattle.interp.proofs.Blend.{sums_more, shares_more}
use Rattle.interp.proofs.lagrange.blend.Goals as goal

pub loop-i-init : goal.loop-i-init
unfolding zero_state
loop-i-init c = (c.zero-sum.ensures, refl)

pub loop-i-preserved : goal.loop-i-preserved
loop-i-preserved c =
    let inv = c.loop-i.invariant in
    let args = c.args in
    let f = at args.xs.now in (
      sums_more f (every 48 args.kernel.now) args.q args.c args.x c.loop-i.i c.weight.ensures inv.0 c.state_at.ensures c.with_share-sum.ensures,
      shares_more f (every 48 args.kernel.now) args.q args.c args.x c.loop-i.i c.weight.ensures inv.1,
    )

pub returns : goal.returns
returns c =
    let inv = c.loop-i.invariant in
    let all : c.loop-i.i ≡ c.args.c = omega arith in
    rw (c.over_all.ensures, inv.0, inv.1, all)
