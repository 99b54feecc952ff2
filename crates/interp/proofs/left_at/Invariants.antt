-- `interp::left_at` meets its contract. The loop's invariant: from lo and hi the search finds what it finds from 0 and n.
use Prim.Native.Nat.{ℕ, ◌≤◌, ◌-◌}
use mathlib.Core.Path.{refl, sym, ap, ◌∙◌}
use native.Mathlib.Omega.{arith}
use lib.Ieee.{Float, le}
use borrow.Author.Rules.{rules}
use Rattle.bits.specs.Bytes.{every}
use Rattle.interp.specs.Window.{bisect, left_of, left_at}
use Rattle.interp.proofs.Search.{Comes, comes_up, comes_down, bisect_end}
use Rattle.interp.proofs.left_at.Given as goal

abbrev pub invariant-loop-lo : goal.invariant-loop-lo
invariant-loop-lo l =
    (l.hi ≤ l.n) × Comes (λ k. le (every 8 l.kernel l.p k) l.et) (bisect (λ k. le (every 8 l.kernel l.p k) l.et) l.n 0 l.n) l.lo l.hi

abbrev pub decreases-loop-lo : goal.decreases-loop-lo
decreases-loop-lo l = l.hi - l.lo
