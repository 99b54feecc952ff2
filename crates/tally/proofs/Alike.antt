-- Records that have the same bytes, wherever they stand, name the same supplier and begin alike. Assumes nothing.
use mathlib.Core.Path.{◌≡◌, ap, ap₂, ◌∙◌, sym}
use mathlib.Core.Bool.{◌&&◌}
use mathlib.Core.List.{List}
use Prim.Native.Nat.{ℕ, ◌+◌, ◌*◌, ◌<◌}
use native.Mathlib.Omega.{arith}
use lib.Dec.{eqb}
use lib.ListN.{get_or}
use Rattle.bits.specs.Bytes.{le32}
use Rattle.records.specs.Records.{begins}
use Rattle.tally.specs.Usage.{usage_size, usage_mark}

-- the record at byte p of one list is the record at byte q of another
abbrev pub Alike : List ℕ → ℕ → List ℕ → ℕ → Type 0
Alike a p b q = (k : ℕ) → k < usage_size → get_or a (p + k) 0 ≡ get_or b (q + k) 0

module _ (a b : List ℕ) (p q : ℕ) (h : Alike a p b q) where
  -- byte k of both, whose place may be written in another way
  byte : (k i j : ℕ) → k < usage_size → i ≡ p + k → j ≡ q + k → get_or a i 0 ≡ get_or b j 0
  byte k i j l e f = ap (λ (n : ℕ). get_or a n 0) e ∙ h k l ∙ ap (λ (n : ℕ). get_or b n 0) (sym f)

  pub same_supplier : le32 a (p + 4) ≡ le32 b (q + 4)
  unfolding le32
  same_supplier =
      ap₂ ◌+◌
      (ap₂ ◌+◌
      (ap₂ ◌+◌ (h 4 (omega arith)) (ap (λ (n : ℕ). 256 * n) (byte 5 (p + 4 + 1) (q + 4 + 1) (omega arith) (omega arith) (omega arith))))
      (ap (λ (n : ℕ). 65536 * n) (byte 6 (p + 4 + 2) (q + 4 + 2) (omega arith) (omega arith) (omega arith))))
      (ap (λ (n : ℕ). 16777216 * n) (byte 7 (p + 4 + 3) (q + 4 + 3) (omega arith) (omega arith) (omega arith)))

  pub same_mark : begins usage_mark a p ≡ begins usage_mark b q
  same_mark = ap₂ (λ (s t : ℕ). eqb s 0xa5 && eqb t 0x5a) (byte 0 p q (omega arith) (omega arith) (omega arith)) (h 1 (omega arith))
