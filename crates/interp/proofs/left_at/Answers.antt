-- `interp::left_at` meets its contract. The loop's invariant: from lo and hi the search finds what it finds from 0 and n.
use Prim.Native.Nat.{ℕ, ◌≤◌, ◌-◌}
use mathlib.Core.Path.{refl, sym, ap, ◌∙◌}
use native.Mathlib.Omega.{arith}
use lib.Ieee.{Float, le}
use borrow.Author.Rules.{rules}
use Rattle.bits.specs.Bytes.{every}
use Rattle.interp.specs.Window.{bisect, left_of, left_at}
use Rattle.interp.proofs.Search.{Comes, comes_up, comes_down, bisect_end}
use Rattle.interp.proofs.left_at.Goals as goal

pub loop-lo-preserved-then-double_at-et : goal.loop-lo-preserved-then-double_at-et
loop-lo-preserved-then-double_at-et c =
    let et = c.args.et in
    let test = ap (λ (e : Float). le e et) (sym c.double_at.ensures) ∙ c.if-double_at-et.true in
    (omega arith, comes_up _ _ _ _ c.loop-lo-test.true test c.loop-lo.invariant.1)

pub loop-lo-preserved : goal.loop-lo-preserved
loop-lo-preserved c =
    let et = c.args.et in
    let test = ap (λ (e : Float). le e et) (sym c.double_at.ensures) ∙ c.if-double_at-et.false in
    (omega arith, comes_down _ _ _ _ c.loop-lo-test.true test c.loop-lo.invariant.1)

pub returns : goal.returns
unfolding left_at left_of
returns c =
    let inv = c.loop-lo.invariant.1 in
    let test = λ (k : ℕ). le (every 8 c.args.kernel.now c.args.p k) c.args.et in
    c.saturating_sub.ensures ∙ ap (λ (r : ℕ). r - 1) (sym (bisect_end test inv.0 _ _ c.loop-lo-test.false) ∙ inv.2)
