-- WHAT A FORGED TABLE CAN DO, whatever its marks and whatever is remembered: a forward choice is a segment of the table, below the count, of
-- the question's pair, and covers the epoch. A wrong mark can choose another such segment than the last in file order, and so make an answer
-- depend on what was asked before; it can choose no segment of another pair, none that does not cover, and none past the count.
-- Assumes nothing.
use Prim.Native.Nat.{ℕ, ◌<◌}
use mathlib.Core.Path.{◌≡◌, sym, subst}
use mathlib.Core.Bool.{Bool, true, cond, ◌&&◌}
use mathlib.Core.List.{List}
use lib.Dec.{ltb}
use borrow.Author.Tests.{ltb-true}
use Rattle.bits.proofs.Tests.{by_test_lem, and_first, and_second}
use Rattle.segment.specs.declared.Segment.{Segment}
use Rattle.std.proofs.Common.{Some, None}
use Rattle.table.specs.Segments.{seg}
use Rattle.table.proofs.Last.{Chosen, chosen_at, chosen_else, last_chosen}
use Rattle.spk.specs.declared.Question.{Question}
use Rattle.spk.specs.Questions.{hits, serves}
use Rattle.spk.specs.Choosing.{Memory, recall, last_forward, forward_in}

-- a choice that there is, is below the count and passes the test
pub forward_chosen : (segs : List Segment) (n : ℕ) (m : Memory) (q : Question) → Chosen (hits q) segs n (forward_in segs n m q)
unfolding forward_in recall
forward_chosen segs n m q = chosen_else (hits q) segs n (recall segs n m q) (last_forward segs n q) (known m) (last_chosen (hits q) segs n)
  where
    known : (x : Memory) → Chosen (hits q) segs n (recall segs n x q)
    known None = tt
    known (Some i) =
        by_test_lem (ltb i n && serves q (seg segs i))
        (λ e.
        subst (λ (b : Bool). Chosen (hits q) segs n (cond b (Some i) None)) (sym e)
        (ltb-true i n (and_first (ltb i n) (serves q (seg segs i)) e), and_second (seg segs i).marked (hits q (seg segs i)) (and_second (ltb i n) (serves q (seg segs i)) e)))
        (λ e. subst (λ (b : Bool). Chosen (hits q) segs n (cond b (Some i) None)) (sym e) tt)

pub forged_forward : (segs : List Segment) (n : ℕ) (m : Memory) (q : Question) (i : ℕ) → forward_in segs n m q ≡ Some i → (i < n) × (hits q (seg segs i) ≡ true)
forged_forward segs n m q i e = chosen_at (hits q) segs n _ i e (forward_chosen segs n m q)
