-- Addresses count doubles from 1 on.
use Rattle.std.specs.Prelude.{ℕ, ◌-◌, ◌*◌, ◌/◌, List, Float, length}
use Rattle.bits.specs.Bytes.{double_at}

-- The byte at which the double of address a starts.
abbrev pub byte_of : ℕ → ℕ
byte_of a = 8 * (a - 1)

-- The double of address a.
abbrev pub double_of_address : List ℕ → ℕ → Float
double_of_address k a = double_at k (byte_of a)

-- How many whole doubles a kernel has.
abbrev pub whole_doubles : List ℕ → ℕ
whole_doubles k = length k / 8
