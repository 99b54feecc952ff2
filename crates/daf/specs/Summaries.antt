-- The summaries of the records walked, in file order, and what one holds.
use Rattle.std.specs.Prelude.{ℕ, zero, suc, ◌+◌, ◌*◌, Bool, false, ◌||◌, List, [], ◌∷◌, ◌++◌, ltb, ℤ, pos}
use Rattle.bits.specs.Bytes.{le32, signed32, double_at}
use Rattle.daf.specs.Walk.{record_at, count_of}
use Rattle.daf.specs.declared.Family.{Family}
use Rattle.daf.specs.declared.Family.TheVariants.{Spk, Pck}
use Rattle.daf.specs.declared.Place.{Place}
use Rattle.daf.specs.declared.Summary.{Summary}

-- A count of one of these records is over 25.
unfoldable pub any_over25 : List ℕ → List ℕ → Bool
any_over25 k [] = false
any_over25 k (r ∷ rs) = ltb 25 (count_of k r) || any_over25 k rs

-- The sum of their counts.
unfoldable pub total : List ℕ → List ℕ → ℕ
total k [] = 0
total k (r ∷ rs) = count_of k r + total k rs

-- Summary i of record r.
abbrev pub place : ℕ → ℕ → Place
place r i = record { rec = r; index = i }

-- The places of n summaries of record r, from number i on.
unfoldable pub places_in : ℕ → ℕ → ℕ → List Place
places_in r i zero = []
places_in r i (suc n) = place r i ∷ places_in r (suc i) n

-- The places of all summaries of these records, in file order: summary number n of the file stands at the nth.
unfoldable pub places : List ℕ → List ℕ → List Place
unfolding places_in
places k [] = []
places k (r ∷ rs) = places_in r 0 (count_of k r) ++ places k rs

-- Summaries of 40 bytes follow from byte 24 of their record.
abbrev pub summary_at : Place → ℕ
summary_at p = record_at p.rec + 24 + 40 * p.index

-- Name i is bytes 40 i to 40 i + 39 of the next record.
abbrev pub name_at : Place → ℕ
name_at p = record_at (p.rec + 1) + 40 * p.index

-- Whole number j of the summary at byte s, after its two doubles.
abbrev pub whole_at : List ℕ → ℕ → ℕ → ℤ
whole_at k s j = signed32 (le32 k (s + (16 + 4 * j)))

-- An SPK's summary at byte s, whose name is at byte n.
abbrev pub spk_summary : List ℕ → ℕ → ℕ → Summary
spk_summary k s n =
    record {
      first = double_at k s;
      last = double_at k (s + 8);
      target = whole_at k s 0;
      center = whole_at k s 1;
      frame = whole_at k s 2;
      data_type = whole_at k s 3;
      start = whole_at k s 4;
      end = whole_at k s 5;
      name_at = n;
    }

-- A PCK's: its body frame stands as the target and its reference frame as the frame; it has no center.
abbrev pub pck_summary : List ℕ → ℕ → ℕ → Summary
pck_summary k s n =
    record {
      first = double_at k s;
      last = double_at k (s + 8);
      target = whole_at k s 0;
      center = pos 0;
      frame = whole_at k s 1;
      data_type = whole_at k s 2;
      start = whole_at k s 3;
      end = whole_at k s 4;
      name_at = n;
    }

-- The summary at a place.
abbrev pub summary_of : Family → List ℕ → Place → Summary
summary_of Spk k p = spk_summary k (summary_at p) (name_at p)
summary_of Pck k p = pck_summary k (summary_at p) (name_at p)
