-- An index as it is to be: a walk through it visits exactly the segments of a bucket, so that what it finds is what a scan of all
-- segments finds. Assumes nothing.
use mathlib.Core.Path.{◌≡◌, refl, sym, ap, ◌∙◌}
use mathlib.Core.Bool.{Bool, true, false, cond, true≢false}
use mathlib.Core.List.{List, ◌∷◌}
use Prim.Native.Nat.{ℕ, zero, suc, ◌+◌, ◌≤◌, ◌<◌}
use native.Mathlib.Nat.{mod-lt}
use native.Mathlib.Omega.{arith}
use lib.IntN.{ℤ}
use lib.ListN.{length}
use borrow.Author.Tests.{eq-eqb, eqb-true}
use Rattle.bits.proofs.Tests.{by_test_lem}
use Rattle.segment.specs.declared.Segment.{Segment}
use Rattle.std.proofs.Common.{Option, Some, None}
use Rattle.table.specs.Segments.{seg}
use Rattle.table.specs.Choosing.{last_in}
use Rattle.table.proofs.Last.{Chosen, last_chosen, last_turn}
use Rattle.index.specs.Buckets.{unsigned_of, bucket_of, in_bucket, bucket_at}
use Rattle.index.specs.Visiting.{entry_of, head_of, down, up, chosen_of, last_by}
use Rattle.index.specs.Right.{first_in, all_down, all_up, IndexedDown, IndexedUp}
use Rattle.index.proofs.Visits.{down_here, down_past, up_here, up_past, chosen_turn}

-- a bucket is one of the m
pub bucket_lt : (m : ℕ) (body : ℤ) → 0 < m → bucket_of m body < m
unfolding bucket_of
bucket_lt m body h = mod-lt (unsigned_of body) h

-- ---- laws of the definitions, by a test
module _ (test : Segment → Bool) (segs : List Segment) where
  pub all_down_turn : (k : ℕ) (b : Bool) → test (seg segs k) ≡ b
      → all_down test segs (suc k) ≡ cond b (k ∷ all_down test segs k) (all_down test segs k)
  unfolding all_down
  all_down_turn k b h = ap (λ (t : Bool). cond t (k ∷ all_down test segs k) (all_down test segs k)) h

  pub all_up_turn : (i r : ℕ) (b : Bool) → test (seg segs i) ≡ b
      → all_up test segs i (suc r) ≡ cond b (i ∷ all_up test segs (suc i) r) (all_up test segs (suc i) r)
  unfolding all_up
  all_up_turn i r b h = ap (λ (t : Bool). cond t (i ∷ all_up test segs (suc i) r) (all_up test segs (suc i) r)) h

  pub first_turn : (i r : ℕ) (b : Bool) → test (seg segs i) ≡ b → first_in test segs i (suc r) ≡ cond b (Some i) (first_in test segs (suc i) r)
  unfolding first_in
  first_turn i r b h = ap (λ (t : Bool). cond t (Some i) (first_in test segs (suc i) r)) h

  -- an entry of the last of k names none past them
  last_entry : (k : ℕ) (c : Option ℕ) → Chosen test segs k c → entry_of c ≤ k
  last_entry k (Some i) h = h.0
  last_entry k None h = omega arith

  pub last_entry_le : (k : ℕ) → entry_of (last_in test segs k) ≤ k
  last_entry_le k = last_entry k (last_in test segs k) (last_chosen test segs k)

  -- an entry of the first from i on names none before
  first_past : (i j r : ℕ) → i < j → entry_of (first_in test segs j r) ≡ suc i → ⊥
  unfolding first_in
  first_past i j zero l e = omega arith
  first_past i j (suc r) l e =
      by_test_lem (test (seg segs j))
      (λ h. let n : suc j ≡ suc i = sym (ap entry_of (first_turn j r true h)) ∙ e in omega arith)
      (λ h. first_past i (suc j) r (omega arith) (sym (ap entry_of (first_turn j r false h)) ∙ e))

-- ---- the segments that pass a test are found among those that pass a weaker one
module _ (test weaker : Segment → Bool) (segs : List Segment) (implies : (s : Segment) → test s ≡ true → weaker s ≡ true) where
  -- what does not pass the weaker one does not pass
  pub not_weaker : (s : Segment) → weaker s ≡ false → test s ≡ false
  not_weaker s h = go (test s) refl
    where
      go : (b : Bool) → test s ≡ b → test s ≡ false
      go true e = absurd (true≢false (sym (implies s e) ∙ h))
      go false e = e

  pub chosen_down : (k : ℕ) → chosen_of test segs (all_down weaker segs k) ≡ last_in test segs k
  unfolding chosen_of all_down last_in
  chosen_down zero = refl
  chosen_down (suc k) =
      by_test_lem (weaker (seg segs k))
      (λ h.
      ap (chosen_of test segs) (all_down_turn weaker segs k true h)
      ∙ chosen_turn test segs k (all_down weaker segs k) (test (seg segs k)) refl
      ∙ ap (λ (c : Option ℕ). cond (test (seg segs k)) (Some k) c) (chosen_down k))
      (λ h.
      ap (chosen_of test segs) (all_down_turn weaker segs k false h)
      ∙ chosen_down k
      ∙ sym (last_turn test segs (suc k) k false refl (not_weaker (seg segs k) h)))

-- ---- the descending index
module _ (segs : List Segment) (n : ℕ) (last below : List ℕ) (right : IndexedDown segs n last below) where
  -- from the last of a bucket below k on, the walk visits all of the bucket below k
  down_all : (h k : ℕ) → k ≤ n
      → down below k (entry_of (last_in (in_bucket (length last) h) segs k)) ≡ all_down (in_bucket (length last) h) segs k
  unfolding down all_down
  down_all h zero l = refl
  down_all h (suc k) l =
      let m = length last in
      by_test_lem (in_bucket m h (seg segs k))
      (λ y.
      down_here below k _ (ap entry_of (last_turn (in_bucket m h) segs (suc k) k true refl y))
      ∙ ap (λ (e : ℕ). k ∷ down below k e)
      (right.links k (omega arith) ∙ ap (λ (b : ℕ). entry_of (last_in (in_bucket m b) segs k)) (eqb-true (bucket_at m segs k) h y))
      ∙ ap (λ (r : List ℕ). k ∷ r) (down_all h k (omega arith))
      ∙ sym (all_down_turn (in_bucket m h) segs k true y))
      (λ y.
      let same = ap entry_of (last_turn (in_bucket m h) segs (suc k) k false refl y) in
      ap (down below (suc k)) same
      ∙ down_past below k _ (let b = last_entry_le (in_bucket m h) segs k in λ (e : entry_of (last_in (in_bucket m h) segs k) ≡ suc k). omega arith)
      ∙ down_all h k (omega arith)
      ∙ sym (all_down_turn (in_bucket m h) segs k false y))

  -- THEOREM: the walk down from a body's bucket visits exactly the segments of the bucket, from the last to the first
  pub visited_down : (body : ℤ) → 0 < length last
      → down below n (head_of last body) ≡ all_down (in_bucket (length last) (bucket_of (length last) body)) segs n
  visited_down body pos =
      let h = bucket_of (length last) body in
      ap (down below n) (right.heads h (bucket_lt (length last) body pos)) ∙ down_all h n (omega arith)

  -- THEOREM: for a test that only segments of the body pass, the walk finds what a scan of all segments finds
  pub last_by_index : (test : Segment → Bool) (body : ℤ) → 0 < length last
      → ((s : Segment) → test s ≡ true → s.target ≡ body)
      → last_by test segs n last below body ≡ last_in test segs n
  unfolding last_by
  last_by_index test body pos own =
      let m = length last in
      ap (chosen_of test segs) (visited_down body pos)
      ∙ chosen_down test (in_bucket m (bucket_of m body)) segs (λ s t. eq-eqb _ _ (ap (bucket_of m) (own s t))) n

-- ---- the ascending index
module _ (segs : List Segment) (n : ℕ) (first above : List ℕ) (right : IndexedUp segs n 0 first above) where
  up_all : (h i r : ℕ) → i + r ≡ n
      → up above i r (entry_of (first_in (in_bucket (length first) h) segs i r)) ≡ all_up (in_bucket (length first) h) segs i r
  unfolding up all_up
  up_all h i zero l = refl
  up_all h i (suc r) l =
      let m = length first in
      by_test_lem (in_bucket m h (seg segs i))
      (λ y.
      up_here above i r _ (ap entry_of (first_turn (in_bucket m h) segs i r true y))
      ∙ ap (λ (e : ℕ). i ∷ up above (suc i) r e)
      (right.links i (omega arith) (omega arith)
      ∙ ap (λ (x : ℕ). entry_of (first_in (in_bucket m (bucket_at m segs i)) segs (suc i) x)) (omega arith)
      ∙ ap (λ (b : ℕ). entry_of (first_in (in_bucket m b) segs (suc i) r)) (eqb-true (bucket_at m segs i) h y))
      ∙ ap (λ (x : List ℕ). i ∷ x) (up_all h (suc i) r (omega arith))
      ∙ sym (all_up_turn (in_bucket m h) segs i r true y))
      (λ y.
      ap (up above i (suc r)) (ap entry_of (first_turn (in_bucket m h) segs i r false y))
      ∙ up_past above i r _ (first_past (in_bucket m h) segs i (suc i) r (omega arith))
      ∙ up_all h (suc i) r (omega arith)
      ∙ sym (all_up_turn (in_bucket m h) segs i r false y))

  -- THEOREM: the walk up from a body's bucket visits exactly the segments of the bucket, in file order
  pub visited_up : (body : ℤ) → 0 < length first
      → up above 0 n (head_of first body) ≡ all_up (in_bucket (length first) (bucket_of (length first) body)) segs 0 n
  visited_up body pos =
      let m = length first in
      let h = bucket_of m body in
      ap (up above 0 n) (right.heads h (bucket_lt m body pos) ∙ ap (λ (x : ℕ). entry_of (first_in (in_bucket m h) segs 0 x)) (omega arith))
      ∙ up_all h 0 n (omega arith)
