-- `bits::signed` meets its contract: std reads a pattern by two's complement too. Assumes nothing.
use mathlib.Core.Path.{◌≡◌, ◌∙◌}
use Prim.Native.Nat.{ℕ, suc, ◌-◌, ◌^◌, ◌<◌}
use native.Mathlib.Omega.{arith}
use lib.Dec.{ltb}
use mir.Syntax.{w32}
use mir.Val.{to_z}
use mir.ValLaws.{to_z-of_z, to_z-Fits}
use Rattle.bits.specs.Bytes.{signed32}
use Rattle.bits.proofs.Tests.{by_test_lem}
use Rattle.bits.proofs.signed.Goals as goal

-- from 2 ^ 31 on it is -1 less what is left to the largest pattern, which is n - 2 ^ 32
two_complement : (n : ℕ) → n < 2 ^ 32 → to_z w32 n ≡ signed32 n
unfolding signed32
two_complement n h = by_test_lem (ltb n (2 ^ 31)) (λ t. rw t) (λ t. let e : 2 ^ 32 - n ≡ suc (2 ^ 32 - suc n) = omega arith in rw (t, e))

pub returns : goal.returns
returns c =
    let n = c.args.n in
    rw c.cast_signed.ensures (to_z-of_z w32 (to_z w32 n) (to_z-Fits w32 n c.ranges.n) ∙ two_complement n c.ranges.n.fits)
