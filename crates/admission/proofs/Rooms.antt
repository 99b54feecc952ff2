-- A program's buffer has room for the reply to every file of records that it reads: one byte more than it takes makes no record more. Assumes nothing.
use mathlib.Core.Path.{◌≡◌, sym, subst}
use Prim.Native.Nat.{ℕ, ◌+◌, ◌*◌, ◌/◌, ◌≤◌, ◌<◌}
use native.Mathlib.Nat.{le_trans, mul-le-mul_left, div-mul-le_self, le-div_iff_mul-le}
use native.Mathlib.Omega.{arith}
use Rattle.lines.specs.Room.{text_room}
use Rattle.streams.specs.Input.{input_limit}

-- lines of at most `line` bytes for records of `size`
module _ (line size : ℕ) where
  -- the bytes of the buffer
  abbrev pub buffer_size : ℕ
  buffer_size = text_room line (input_limit / size)

  module _ (some : 0 < size) (same : (input_limit + 1) / size ≡ input_limit / size) where
    most : (bytes : ℕ) → bytes ≤ input_limit + 1 → text_room line (bytes / size) ≤ buffer_size
    most bytes few =
        let more : bytes / size ≤ (input_limit + 1) / size = (le-div_iff_mul-le some).1 (le_trans (div-mul-le_self bytes size) few) in
        let less : bytes / size ≤ input_limit / size = subst (λ (n : ℕ). bytes / size ≤ n) same more in
        omega (arith, mul-le-mul_left {m = bytes / size} {n = input_limit / size} line less)

    pub enough : (bytes n : ℕ) → bytes ≤ input_limit + 1 → n ≡ buffer_size → text_room line (bytes / size) ≤ n
    enough bytes n few e = subst (λ (l : ℕ). text_room line (bytes / size) ≤ l) (sym e) (most bytes few)

    -- the text ends within the buffer, which is as long after the call as before it
    pub within : (bytes n end l : ℕ) → end ≤ text_room line (bytes / size) → bytes ≤ input_limit + 1 → l ≡ n → n ≡ buffer_size → end ≤ l
    within bytes n end l h few e f = let m = enough bytes n few f in omega (arith, h, m, e)
