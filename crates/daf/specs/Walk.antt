-- The walk over the summary records, and refusals 5 and 6.
use Rattle.std.specs.Prelude.{ℕ, zero, suc, ◌+◌, ◌-◌, ◌*◌, ◌/◌, Bool, true, false, cond, ◌||◌, List, [], ◌∷◌, eqb, ltb, length}
use Rattle.std.specs.Float.Ieee.{to_unsigned}
use Rattle.bits.specs.Bytes.{double_at}

-- Record r occupies bytes 1024 (r - 1) to 1024 r - 1.
abbrev pub record_at : ℕ → ℕ
record_at r = 1024 * (r - 1)

-- NEXT, the first double of a summary record, cut to a whole number of 32 bits.
unfoldable pub next_of : List ℕ → ℕ → ℕ
next_of k r = to_unsigned 32 (double_at k (record_at r))

-- NSUM, its third double, cut to a whole number of 64 bits.
unfoldable pub count_of : List ℕ → ℕ → ℕ
count_of k r = to_unsigned 64 (double_at k (record_at r + 16))

-- Summary record r, or the name record after it, ends past the kernel.
abbrev pub past_end : List ℕ → ℕ → Bool
past_end k r = ltb (length k) (1024 * r) || ltb (length k) (1024 * (r + 1))

-- r is among these records.
abbrev pub among : ℕ → List ℕ → Bool
among r [] = false
among r (x ∷ xs) = eqb r x || among r xs

-- What a walk results in: its records in file order, a record that ends past the kernel, or a record that it reached before.
pub data Walk : Type 0 where
  Records : List ℕ → Walk
  PastEnd : Walk
  Twice : Walk
  Endless : Walk

-- Record r stands before those that the walk goes on to.
abbrev pub before : ℕ → Walk → Walk
before r (Records rs) = Records (r ∷ rs)
before r PastEnd = PastEnd
before r Twice = Twice
before r Endless = Endless

-- The walk from record r on, with the records seen: record 0 ends it. The count bounds the turns, and `Endless` says that they ran out.
unfoldable pub walk_from : List ℕ → List ℕ → ℕ → ℕ → Walk
walk_from k seen zero r = Endless
walk_from k seen (suc turns) r =
    let rest = walk_from k (r ∷ seen) turns (next_of k r) in
    cond (eqb r 0) (Records []) (cond (past_end k r) PastEnd (cond (among r seen) Twice (before r rest)))

-- The walk. Each turn ends it or sees a record of the kernel that was not seen before, so one turn more than the kernel has
-- records is enough: it is never `Endless` (`never_endless`).
unfoldable pub walk : List ℕ → ℕ → Walk
unfolding walk_from
walk k first = walk_from k [] (suc (length k / 1024)) first

-- The records that the walk goes over; none where it is refused.
abbrev pub records_in : Walk → List ℕ
records_in (Records rs) = rs
records_in PastEnd = []
records_in Twice = []
records_in Endless = []

abbrev pub is_past_end : Walk → Bool
is_past_end (Records rs) = false
is_past_end PastEnd = true
is_past_end Twice = false
is_past_end Endless = false

abbrev pub is_twice : Walk → Bool
is_twice (Records rs) = false
is_twice PastEnd = false
is_twice Twice = true
is_twice Endless = false
