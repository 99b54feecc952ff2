-- An evaluation depends on nothing in the kernel but the segment's own doubles. Assumes nothing.
use Prim.Native.Nat.{ℕ, ◌≤◌}
use mathlib.Core.Path.{◌≡◌}
use mathlib.Core.List.{List}
use lib.IntN.{nat_abs}
use lib.Ieee.{Float}
use Rattle.bits.proofs.Tests.{by_test_lem}
use Rattle.daf.specs.Addresses.{double_of_address, whole_doubles}
use Rattle.daf.specs.declared.Family.{Family}
use Rattle.segment.specs.Evaluating.{unsupported, unfit, evaluated}
use Rattle.segment.specs.declared.Segment.{Segment}
use Rattle.segment.proofs.Fit.{fitting}
use Rattle.segment.proofs.Inside.{inside}
use Rattle.segment.proofs.OwnSteps.{unfit_own, value_own}

-- Two kernels hold the doubles of addresses a to e, and the same ones.
pub record Agrees (k k' : List ℕ) (a e : ℕ) : Type 0 where
  pub here : e ≤ whole_doubles k
  pub there : e ≤ whole_doubles k'
  pub same : (j : ℕ) → a ≤ j → j ≤ e → double_of_address k j ≡ double_of_address k' j

-- **own-bytes**, for one segment: two kernels that hold the segment's doubles, and the same ones, give the same: refusal, or state with its word.
pub own_bytes : (f : Family) (k k' : List ℕ) (s : Segment) (i : ℕ) (et : Float) → Agrees k k' (nat_abs s.start) (nat_abs s.end)
    → evaluated f k s i et ≡ evaluated f k' s i et
unfolding evaluated
own_bytes f k k' s i et g =
    let u = unfit_own f k k' s g.here g.there g.same in
    by_test_lem (unsupported s.kind) (λ y. rw y)
    (λ m. by_test_lem (unfit f k s) (λ y. rw (m, ← u, y))
    (λ e. let fit = fitting f k s m e in
    let v = value_own k k' (nat_abs s.start) (nat_abs s.end) fit.0.from g.same s.kind et fit.1 (inside f k s et m e) in rw (u, v.0, v.1)))
