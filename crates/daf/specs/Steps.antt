-- How the code reads a walk that was accepted: it counts its records, and follows NEXT again.
use Rattle.std.specs.Prelude.{◌≡◌, ℕ, zero, suc, ◌+◌, ◌-◌, ◌*◌, ◌≤◌, ◌<◌, Bool, false, cond, List, [], ◌∷◌, ◌++◌, ltb, length, take, Result, Ok, Err}
use Rattle.refusal.specs.declared.Refusal.TheVariants.{RecordPastEnd, RecordTwice, CountOver25, TooManySummaries}
use Rattle.refusal.specs.Order.{first_of, case}
use Rattle.daf.specs.Walk.{Walk, Records, PastEnd, Twice, Endless, next_of, count_of}
use Rattle.daf.specs.Summaries.{any_over25, total, places_in, places, spk_summary, pck_summary}
use Rattle.daf.specs.Names.{kept}
use Rattle.daf.specs.Opening.{walk_cases, daf_of}
use Rattle.daf.specs.declared.Daf.{Daf}
use Rattle.daf.specs.declared.Family.{Family}
use Rattle.daf.specs.declared.Family.TheVariants.{Spk, Pck}
use Rattle.daf.specs.declared.Place.{Place}
use Rattle.daf.specs.declared.Summary.{Summary}
use Rattle.daf.specs.declared.Cursor.{Cursor}
use Rattle.refusal.specs.declared.Refusal.{Refusal}

-- The walk's end as the code gives it: how many records, or the refusal.
abbrev pub walked_of : Walk → Result ℕ Refusal
walked_of (Records rs) = Ok (length rs)
walked_of PastEnd = Err RecordPastEnd
walked_of Twice = Err RecordTwice
walked_of Endless = Err RecordTwice

-- The n records from r on, by NEXT.
unfoldable pub along : List ℕ → ℕ → ℕ → List ℕ
along k r zero = []
along k r (suc n) = r ∷ along k (next_of k r) n

-- Each of them stands in the kernel, with its name record.
unfoldable pub Sound : List ℕ → ℕ → ℕ → Type 0
Sound k r zero = Unit {0}
Sound k r (suc n) = (1 ≤ r) × (1024 * (r + 1) ≤ length k) × Sound k (next_of k r) n

-- The summary of either family at byte s, whose name is at byte n.
abbrev pub summary_in : Family → List ℕ → ℕ → ℕ → Summary
summary_in Spk k s n = spk_summary k s n
summary_in Pck k s n = pck_summary k s n

-- The bytes of a name without those at their end that pass a test.
abbrev pub trimmed : (ℕ → Bool) → List ℕ → List ℕ
trimmed test xs = take (kept test xs 0 (length xs)) xs

-- Refusals 7 and 8 of n records from `first` on, else the opened DAF.
unfoldable pub counted_of : List ℕ → ℕ → ℕ → ℕ → Result Daf Refusal
counted_of k first n limit =
    first_of (case (any_over25 k (along k first n)) CountOver25 ∷ case (ltb limit (total k (along k first n))) TooManySummaries ∷ []) Err
    (Ok (record { first = first; records = n; summaries = total k (along k first n) }))

-- Refusals 5 to 8, else the opened DAF.
unfoldable pub walk_opened : ℕ → List ℕ → ℕ → Result Daf Refusal
walk_opened limit k first = first_of (walk_cases limit k first) Err (Ok (daf_of k first))

-- ---- the summaries one after the other

abbrev pub cursor : ℕ → ℕ → ℕ → ℕ → Cursor
cursor r i count left = record { rec = r; index = i; count = count; left = left }

-- The first summary of `left` records from r on; past the last there is the cursor of zeros.
unfoldable pub seek_of : List ℕ → ℕ → ℕ → Cursor
seek_of k r zero = cursor 0 0 0 0
seek_of k r (suc left) =
    let rest = seek_of k (next_of k r) left in
    cond (ltb 0 (count_of k r)) (cursor r 0 (count_of k r) left) rest

-- The summary after the one at a cursor.
unfoldable pub next_cursor : List ℕ → Cursor → Cursor
unfolding seek_of
next_cursor k c =
    cond (ltb (c.index + 1) c.count) (cursor c.rec (c.index + 1) c.count c.left) (seek_of k (next_of k c.rec) c.left)

-- The places from a cursor on.
unfoldable pub remaining : List ℕ → Cursor → List Place
remaining k c = places_in c.rec c.index (c.count - c.index) ++ places k (along k (next_of k c.rec) c.left)

-- A cursor whose records stand in the kernel, with no count over 25.
unfoldable pub Standing : List ℕ → Cursor → Type 0
unfolding Sound
Standing k c =
    (c.index < c.count → (1 ≤ c.rec) × (1024 * (c.rec + 1) ≤ length k) × (c.count ≤ 25))
    × Sound k (next_of k c.rec) c.left
    × (any_over25 k (along k (next_of k c.rec) c.left) ≡ false)
