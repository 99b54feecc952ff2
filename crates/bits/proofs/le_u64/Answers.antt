-- `bits::le_u64` meets its contract: byte i of the part is byte `at` + i, and std weighs the eight as `le64` does. Assumes nothing.
use mathlib.Core.Path.{◌≡◌, ap}
use mathlib.Core.List.{List}
use Prim.Native.Nat.{ℕ, ◌+◌, ◌-◌, ◌<◌}
use native.Mathlib.Omega.{arith}
use lib.ListN.{length, get_or, take, drop}
use lib.Seq.{get_or-take, get_or-drop}
use Rattle.bits.specs.Bytes.{le32, le64}
use Rattle.bits.proofs.le_u64.Goals as goal

byte : (s : List ℕ) (at n i k : ℕ) → i < n → at + i ≡ k → get_or (take n (drop at s)) i 0 ≡ get_or s k 0
byte s at n i k h e = rw (get_or-take, get_or-drop) (ap (λ (j : ℕ). get_or s j 0) e)

pub returns : goal.returns
unfolding le32 le64
returns c =
    let s = c.args.s.now in
    let at = c.args.at in
    let n = length s - at in
    let b = byte s at n in
    omega (
      arith,
      c.from_le_bytes.ensures,
      b 0 at (omega arith) (omega arith),
      b 1 (at + 1) (omega arith) (omega arith),
      b 2 (at + 2) (omega arith) (omega arith),
      b 3 (at + 3) (omega arith) (omega arith),
      b 4 (at + 4) (omega arith) (omega arith),
      b 5 (at + 4 + 1) (omega arith) (omega arith),
      b 6 (at + 4 + 2) (omega arith) (omega arith),
      b 7 (at + 4 + 3) (omega arith) (omega arith),
    )
