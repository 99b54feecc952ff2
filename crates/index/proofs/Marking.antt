-- Marks through an index: of the segments that overlap one, all are in its bucket; so compared with those that the walk visits it gets its
-- mark. Assumes nothing.
use mathlib.Core.Path.{◌≡◌, refl, sym, ap, ap₂, ◌∙◌}
use mathlib.Core.Bool.{Bool, true, false, not, ◌&&◌, ◌||◌, cond}
use mathlib.Core.List.{List}
use Prim.Native.Nat.{ℕ, zero, suc, ◌-◌, ◌<◌}
use lib.Dec.{eqb}
use lib.IntN.{ℤ}
use lib.ListN.{length}
use borrow.Author.Tests.{eq-eqb}
use Rattle.bits.proofs.Tests.{by_test_lem, and_first, same_z_eq}
use Rattle.segment.specs.declared.Segment.{Segment}
use Rattle.std.proofs.Common.{Option, Some}
use Rattle.table.specs.Segments.{overlaps, seg}
use Rattle.table.specs.Choosing.{last_in}
use Rattle.table.specs.Marks.{rivals, others, marked_to}
use Rattle.table.proofs.Marks.{at_any}
use Rattle.index.specs.Buckets.{bucket_of, in_bucket, bucket_at}
use Rattle.index.specs.Visiting.{entry_of, head_of, down}
use Rattle.index.specs.Right.{first_in, all_down, IndexedDown, IndexedUp}
use Rattle.index.specs.Marking.{others_of}
use Rattle.index.proofs.Right.{all_down_turn, not_weaker, visited_down}

-- ---- an index is one of targets: a list of the same targets has the same
module _ (segs segs' : List Segment) (same : (j : ℕ) → (seg segs' j).target ≡ (seg segs j).target) where
  last_same : (m h k : ℕ) → last_in (in_bucket m h) segs' k ≡ last_in (in_bucket m h) segs k
  unfolding last_in
  last_same m h zero = refl
  last_same m h (suc k) =
      ap₂ (λ (z : ℤ) (c : Option ℕ). cond (eqb (bucket_of m z) h) (Some k) c) (same k) (last_same m h k)

  pub indexed_same : (n : ℕ) (last below : List ℕ) → IndexedDown segs n last below → IndexedDown segs' n last below
  indexed_same n last below right =
      let m = length last in
      record {
        heads = λ h l. right.heads h l ∙ sym (ap entry_of (last_same m h n));
        links =
            λ i l.
            right.links i l
            ∙ sym (ap (λ (z : ℤ). entry_of (last_in (in_bucket m (bucket_of m z)) segs' i)) (same i) ∙ ap entry_of (last_same m (bucket_at m segs i) i));
      }

  first_same : (m h i r : ℕ) → first_in (in_bucket m h) segs' i r ≡ first_in (in_bucket m h) segs i r
  unfolding first_in
  first_same m h i zero = refl
  first_same m h i (suc r) =
      ap₂ (λ (z : ℤ) (c : Option ℕ). cond (eqb (bucket_of m z) h) (Some i) c) (same i) (first_same m h (suc i) r)

  pub indexed_up_same : (n i : ℕ) (first above : List ℕ) → IndexedUp segs n i first above → IndexedUp segs' n i first above
  indexed_up_same n i first above right =
      let m = length first in
      record {
        heads = λ h l. right.heads h l ∙ sym (ap entry_of (first_same m h i (n - i)));
        links =
            λ j l k.
            right.links j l k
            ∙ sym
            (ap (λ (z : ℤ). entry_of (first_in (in_bucket m (bucket_of m z)) segs' (suc j) (n - suc j))) (same j)
            ∙ ap entry_of (first_same m (bucket_at m segs j) (suc j) (n - suc j)));
      }

-- marks leave the targets
pub marked_targets : (segs : List Segment) (n k j : ℕ) → (seg (marked_to segs n k) j).target ≡ (seg segs j).target
marked_targets segs n k j = ap (λ (s : Segment). s.target) (at_any segs n k j).1

-- so an index of a table is one of the table with its marks
pub indexed_marked : (segs : List Segment) (n k : ℕ) (last below : List ℕ) → IndexedDown segs n last below → IndexedDown (marked_to segs n k) n last below
indexed_marked segs n k last below = indexed_same segs (marked_to segs n k) (marked_targets segs n k) n last below

pub indexed_up_marked : (segs : List Segment) (n k : ℕ) (first above : List ℕ) → IndexedUp segs n 0 first above → IndexedUp (marked_to segs n k) n 0 first above
indexed_up_marked segs n k first above = indexed_up_same segs (marked_to segs n k) (marked_targets segs n k) n 0 first above

or_false : (a b : Bool) → a ≡ false → (a || b) ≡ b
or_false a b e = ap (λ (x : Bool). x || b) e

and_false : (a b : Bool) → b ≡ false → (a && b) ≡ false
and_false true b e = e
and_false false b e = refl

module _ (segs : List Segment) (a : Segment) (i : ℕ) where
  -- over all that pass a test that each that overlaps passes
  over_down : (test : Segment → Bool) → ((s : Segment) → overlaps a s ≡ true → test s ≡ true)
      → (n : ℕ) → others_of segs a i (all_down test segs n) ≡ others segs a i n
  unfolding others_of all_down others
  over_down test implies zero = refl
  over_down test implies (suc k) =
      by_test_lem (test (seg segs k))
      (λ y.
      ap (others_of segs a i) (all_down_turn test segs k true y)
      ∙ ap (λ (b : Bool). rivals a i (seg segs k) k || b) (over_down test implies k))
      (λ y.
      ap (others_of segs a i) (all_down_turn test segs k false y)
      ∙ over_down test implies k
      ∙ sym (or_false _ _ (and_false (not (eqb k i)) _ (not_weaker (overlaps a) test segs implies (seg segs k) y))))

  module _ (n : ℕ) (last below : List ℕ) where
    -- THEOREM: through an index as it is to be, the segments that overlap are those of all segments
    pub others_by_index : IndexedDown segs n last below → 0 < length last → others_of segs a i (down below n (head_of last a.target)) ≡ others segs a i n
    others_by_index right pos =
        let m = length last in
        ap (others_of segs a i) (visited_down segs n last below right a.target pos)
        ∙ over_down (in_bucket m (bucket_of m a.target)) (λ s y. eq-eqb _ _ (ap (bucket_of m) (sym (same_z_eq _ _ (and_first _ _ (and_first _ _ y)))))) n
