-- The name at a place of the kernel: 40 bytes less what trails.
use Rattle.std.specs.Prelude.{ℕ, zero, suc, ◌+◌, Bool, true, cond, ◌&&◌, ◌||◌, List, [], eqb, ltb, leb, length, get_or, take, drop}

-- How many of n bytes from `at` on are left where those that pass a test go from the end.
unfoldable pub kept : (ℕ → Bool) → List ℕ → ℕ → ℕ → ℕ
kept test k at zero = 0
kept test k at (suc n) = cond (test (get_or k (at + n) 0)) (kept test k at n) (suc n)

abbrev pub is_nul : ℕ → Bool
is_nul b = eqb b 0

-- Bytes 9 to 13, and 32.
abbrev pub is_space : ℕ → Bool
is_space b = (leb 9 b && leb b 13) || eqb b 32

-- The first n bytes from `at` on are below 128.
unfoldable pub ascii : List ℕ → ℕ → ℕ → Bool
ascii k at zero = true
ascii k at (suc n) = ltb (get_or k (at + n) 0) 128 && ascii k at n

-- Trailing NULs go, then trailing spaces.
abbrev pub name_length : List ℕ → ℕ → ℕ
name_length k at = kept is_space k at (kept is_nul k at 40)

-- The name: empty where the kernel ends before the 40 bytes do, or one of them is 128 or more.
unfoldable pub name_of : List ℕ → ℕ → List ℕ
name_of k at = cond (leb (at + 40) (length k) && ascii k at 40) (take (name_length k at) (drop at k)) []
