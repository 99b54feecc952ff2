-- What a walk down through an index chooses, whatever the index holds. Assumes nothing.
use mathlib.Core.Path.{sym, ap, ◌∙◌, subst}
use mathlib.Core.Bool.{Bool, true, false}
use mathlib.Core.List.{List}
use Prim.Native.Nat.{ℕ, zero, suc, ◌≤◌}
use native.Mathlib.Decide.{ℕ_discrete}
use native.Mathlib.Omega.{arith}
use lib.IntN.{ℤ}
use lib.ListN.{get_or}
use Rattle.bits.proofs.Tests.{by_test_lem}
use Rattle.segment.specs.declared.Segment.{Segment}
use Rattle.std.proofs.Common.{Option, Some, None}
use Rattle.table.specs.Segments.{seg}
use Rattle.table.specs.Steps.{Within}
use Rattle.table.proofs.Last.{Chosen}
use Rattle.index.specs.Visiting.{head_of, down, chosen_of, last_by}
use Rattle.index.proofs.Visits.{down_here, down_past, chosen_turn}

-- whatever the index holds, what a walk in a table of n chooses is a segment of the table that passes the test
module _ (test : Segment → Bool) (segs : List Segment) (links : List ℕ) where
  chosen_down : (n k e : ℕ) → k ≤ n → Chosen test segs n (chosen_of test segs (down links k e))
  unfolding down chosen_of
  chosen_down n zero e l = tt
  chosen_down n (suc k) e l =
      elim (ℕ_discrete e (suc k)) [
        | yes q ↦ (
            let rest = down links k (get_or links k 0) in
            let turn = ap (chosen_of test segs) (down_here links k e q) in
            by_test_lem (test (seg segs k))
            (λ y. subst (Chosen test segs n) (sym (turn ∙ chosen_turn test segs k rest true y)) (omega arith, y))
            (λ y. subst (Chosen test segs n) (sym (turn ∙ chosen_turn test segs k rest false y)) (chosen_down n k (get_or links k 0) (omega arith))))
        | no ne ↦ subst (λ (r : List ℕ). Chosen test segs n (chosen_of test segs r)) (sym (down_past links k e ne)) (chosen_down n k e (omega arith))
      ]

  -- THEOREM: a forged index can lead to an earlier segment, and to none that does not pass
  pub last_by_chosen : (n : ℕ) (last : List ℕ) (body : ℤ) → Chosen test segs n (last_by test segs n last links body)
  unfolding last_by
  last_by_chosen n last body = chosen_down n n (head_of last body) (omega arith)

  within_chosen : (n : ℕ) (c : Option ℕ) → Chosen test segs n c → Within n c
  within_chosen n (Some i) h = h.0
  within_chosen n None h = tt

  pub last_by_within : (n : ℕ) (last : List ℕ) (body : ℤ) → Within n (last_by test segs n last links body)
  last_by_within n last body = within_chosen n (last_by test segs n last links body) (last_by_chosen n last body)
