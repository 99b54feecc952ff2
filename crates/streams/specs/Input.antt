-- What a program takes from a file.
use Rattle.std.specs.Prelude.{ℕ, ◌+◌, ◌≤◌, List, length}
use Rattle.std.specs.Fn.{Once, FnOnceTakesAt, FnOnceReturnsAt}
use Rattle.std.specs.Borrow.{Bor}

-- The most bytes that a program takes from one file.
abbrev pub input_limit : ℕ
input_limit = 65536

-- What is done with a file's bytes can be done with any that fit a buffer: one more than a program takes.
abbrev pub TakesInput : {F R : Type 0} → Once F (Bor (List ℕ) × Unit {0}) R → F → Type 0
TakesInput g f = (bytes : List ℕ) → length bytes ≤ input_limit + 1 → FnOnceTakesAt g f bytes

-- It gave r of such bytes.
abbrev pub GaveOfInput : {F R : Type 0} → Once F (Bor (List ℕ) × Unit {0}) R → F → R → Type 0
GaveOfInput g f r = (bytes : List ℕ) × (length bytes ≤ input_limit + 1) × FnOnceReturnsAt g f bytes r
