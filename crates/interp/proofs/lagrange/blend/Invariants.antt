-- `interp::lagrange::blend` meets its contract. The loop's invariant: the seven sums have i terms. Assumes nothing.
use mathlib.Core.Path.{◌≡◌}
use Rattle.bits.specs.F64.{◌⊗◌, at, sum_from0}
use Rattle.bits.specs.Bytes.{every}
use Rattle.interp.specs.Lagrange.{share_of}
use Rattle.interp.specs.Discrete.{six}
use Rattle.interp.proofs.lagrange.blend.Given as goal

abbrev pub invariant-loop-i : goal.invariant-loop-i
invariant-loop-i l = (l.sum ≡ six (λ b. sum_from0 (λ j. share_of (at l.xs) l.c l.x j ⊗ every 48 l.kernel b j) l.i) l.q) × (l.all ≡ sum_from0 (share_of (at l.xs) l.c l.x) l.i)
