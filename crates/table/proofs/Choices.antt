-- Laws of a choice and of the segment that is read for it. Assumes nothing.
use mathlib.Core.Path.{◌≡◌, sym, ap, subst}
use mathlib.Core.Bool.{Bool, true, false, cond}
use mathlib.Core.List.{List}
use Prim.Native.Nat.{ℕ, ◌≤◌, ◌<◌}
use native.Mathlib.Omega.{arith}
use lib.Dec.{ltb}
use borrow.Author.Tests.{lt-ltb}
use Rattle.segment.specs.declared.Segment.{Segment}
use Rattle.std.proofs.Common.{Option, Some, None}
use Rattle.table.specs.Segments.{seg, empty_segment}
use Rattle.table.proofs.Last.{Chosen}
use Rattle.table.specs.Steps.{seg_or, Within}

-- ---- a segment read whole, or the empty one
module _ (segs : List Segment) (n i : ℕ) where
  pub or_yes : ltb i n ≡ true → seg segs i ≡ seg_or segs n i
  unfolding seg_or
  or_yes e = sym (ap (λ (b : Bool). cond b (seg segs i) empty_segment) e)

  pub or_no : ltb i n ≡ false → empty_segment ≡ seg_or segs n i
  unfolding seg_or
  or_no e = sym (ap (λ (b : Bool). cond b (seg segs i) empty_segment) e)

-- ---- the segment of a choice
-- a choice's number is below a bound that is no less
pub within_more : (c : Option ℕ) (n b : ℕ) → n ≤ b → Within n c → Within b c
within_more (Some i) n b l h = omega arith
within_more None n b l h = tt

pub within_at : (n : ℕ) (c : Option ℕ) (i : ℕ) → c ≡ Some i → Within n c → i < n
within_at n c i e h = subst (Within n) e h

module _ (segs : List Segment) (n : ℕ) where
  -- the segment of a choice
  pub or_at : (i : ℕ) → i < n → seg_or segs n i ≡ seg segs i
  unfolding seg_or
  or_at i l = ap (λ (b : Bool). cond b (seg segs i) empty_segment) (lt-ltb i n l)

  pub within_chosen : (test : Segment → Bool) (c : Option ℕ) → Chosen test segs n c → Within n c
  within_chosen test (Some i) h = h.0
  within_chosen test None h = tt
