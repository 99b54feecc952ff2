-- How many bytes were read, where they were. Assumes nothing.
use mathlib.Core.Path.{◌≡◌, subst}
use mathlib.Core.List.{List}
use Prim.Native.Nat.{ℕ, ◌+◌, ◌≤◌}
use native.Mathlib.Omega.{arith}
use lib.ListN.{length, take}
use Rattle.std.specs.Prelude.{Option, Some, IfSome}
use Rattle.io.specs.Counts.{IsPrefixLen}
use Rattle.streams.specs.Input.{input_limit}

pub counted : (i : Option ℕ) (n : ℕ) (buf : List ℕ) → i ≡ Some n → IfSome i (λ m. IsPrefixLen m buf) → IsPrefixLen n buf
counted i n buf e w = subst (λ (j : Option ℕ). IfSome j (λ m. IsPrefixLen m buf)) e w

-- what was read into a program's buffer has at most one byte more than it takes
pub counted_few : (n : ℕ) (buf : List ℕ) (l : ℕ) → IsPrefixLen n buf → length buf ≡ l → l ≡ input_limit + 1 → length (take n buf) ≤ input_limit + 1
counted_few n buf l c e f = omega (arith, c.0, c.1)
