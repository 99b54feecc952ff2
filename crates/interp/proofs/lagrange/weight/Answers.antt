-- `interp::lagrange::weight` meets its contract. Assumes nothing.
use mathlib.Core.Path.{◌≡◌, refl}
use native.Mathlib.Omega.{arith}
use Rattle.interp.specs.Lagrange.{weight_of, factors}
use Rattle.interp.proofs.Blend.{factors_more, factors_same}
use Rattle.interp.proofs.lagrange.weight.Goals as goal
use Rattle.interp.proofs.lagrange.weight.Goals.{then-i-j, else-i-j}

pub loop-j-init : goal.loop-j-init
unfolding factors
loop-j-init c = refl

pub loop-j-preserved : goal.loop-j-preserved
loop-j-preserved c =
    let inv = c.loop-j.invariant in
    elim c.if-i-j.branch [ then-i-j w ↦ factors_more _ _ _ w.if-i-j.true inv w.w-is | else-i-j w ↦ factors_same _ _ _ w.if-i-j.false inv w.w-is ]

pub returns : goal.returns
unfolding weight_of
returns c =
    let inv = c.loop-j.invariant in
    let all : c.loop-j.j ≡ c.args.c = omega arith in
    rw (inv, all)
