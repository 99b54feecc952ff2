-- Numbers in a list of bytes, the least byte first.
use Rattle.std.specs.Prelude.{ℕ, ◌+◌, ◌-◌, ◌*◌, ◌^◌, cond, List, ltb, ℤ, pos, neg_ℤ, Float, get_or}
use Rattle.std.specs.Float.{binary64}
use Rattle.std.specs.Float.Ieee.{of_bits}

-- The number of the four bytes from `at` on: each weighs 256 times the one before it.
unfoldable pub le32 : List ℕ → ℕ → ℕ
le32 s at = get_or s at 0 + 256 * get_or s (at + 1) 0 + 65536 * get_or s (at + 2) 0 + 16777216 * get_or s (at + 3) 0

-- The number of the eight bytes from `at` on.
unfoldable pub le64 : List ℕ → ℕ → ℕ
unfolding le32
le64 s at = le32 s at + 4294967296 * le32 s (at + 4)

-- A 32-bit pattern read by two's complement: from 2 ^ 31 on it stands for n - 2 ^ 32.
unfoldable pub signed32 : ℕ → ℤ
signed32 n = cond (ltb n (2 ^ 31)) (pos n) (neg_ℤ (pos (2 ^ 32 - n)))

-- The double of a bit pattern. Every NaN pattern is the one NaN.
abbrev pub double_of : ℕ → Float
double_of n = of_bits binary64 n

-- The double at byte p.
abbrev pub double_at : List ℕ → ℕ → Float
double_at s p = double_of (le64 s p)

-- Number k of the doubles that stand at byte p and every step bytes after.
abbrev pub every : ℕ → List ℕ → ℕ → ℕ → Float
every step s p k = double_at s (p + step * k)
