-- A step through an index as it is to be is the step over all segments, and so is the walk.
-- Assumes nothing.
use mathlib.Core.Path.{◌≡◌, refl, sym, ap, ◌∙◌}
use mathlib.Core.Bool.{Bool, true, false, cond}
use mathlib.Core.List.{List, [], ◌∷◌}
use Prim.Native.Nat.{ℕ, zero, suc, ◌<◌}
use lib.ListN.{length}
use borrow.Author.Tests.{eq-eqb}
use Rattle.bits.proofs.Tests.{by_test_lem, and_first, same_z_eq}
use Rattle.segment.specs.declared.Segment.{Segment}
use Rattle.std.proofs.Common.{Ok}
use Rattle.table.specs.Segments.{seg}
use Rattle.index.specs.Buckets.{bucket_of, in_bucket}
use Rattle.index.specs.Right.{all_up, IndexedUp}
use Rattle.index.proofs.Right.{all_up_turn, not_weaker, visited_up}
use Rattle.chain.specs.declared.Leg.{Leg}
use Rattle.chain.specs.declared.Step.{Step}
use Rattle.chain.specs.declared.Step.TheVariants.{Blocked}
use Rattle.chain.specs.Step.{Evaluation, leaves, look, is_end, step_in, step_from}
use Rattle.chain.specs.Walk.{chain_limit, is_zero, to_zero}
use Rattle.chain.specs.Visited.{step_over}
use Rattle.chain.specs.Walked.{to_zero_by}
use Rattle.chain.proofs.Walked.{walk_same}
use Rattle.indexed.specs.Stepping.{step_by}
use Rattle.chain.proofs.Steps.{look_past, step_from_lem}

module _ (ev : Evaluation) (segs : List Segment) (leg : Leg) where
  -- ---- a segment more
  pub over_none : (kept : Step) → step_over ev segs leg kept [] ≡ kept
  unfolding step_over
  over_none kept = refl

  pub over_turn : (kept next : Step) (i : ℕ) (rest : List ℕ) → next ≡ look ev leg kept (seg segs i) i
      → step_over ev segs leg kept (i ∷ rest) ≡ cond (is_end next) next (step_over ev segs leg next rest)
  unfolding step_over
  over_turn kept next i rest e = ap (λ (x : Step). cond (is_end x) x (step_over ev segs leg x rest)) (sym e)

  -- ---- over the segments that pass a test that all those of the body pass, it is the scan of all
  module _ (test : Segment → Bool) (implies : (s : Segment) → leaves s leg ≡ true → test s ≡ true) where
    turn_in : (kept : Step) (i r : ℕ) → step_in ev segs leg kept i (suc r)
        ≡ cond (is_end (look ev leg kept (seg segs i) i)) (look ev leg kept (seg segs i) i) (step_in ev segs leg (look ev leg kept (seg segs i) i) (suc i) r)
    unfolding step_in
    turn_in kept i r = refl

    -- a segment that is passed over changes nothing
    past_in : (kept : Step) (i r : ℕ) → is_end kept ≡ false → leaves (seg segs i) leg ≡ false
        → step_in ev segs leg kept i (suc r) ≡ step_in ev segs leg kept (suc i) r
    past_in kept i r k e =
        turn_in kept i r
        ∙ ap (λ (x : Step). cond (is_end x) x (step_in ev segs leg x (suc i) r)) (sym (look_past ev leg kept (seg segs i) i e))
        ∙ ap (λ (b : Bool). cond b kept (step_in ev segs leg kept (suc i) r)) k

    pub over_all_lem : (kept : Step) (i r : ℕ) → is_end kept ≡ false → step_over ev segs leg kept (all_up test segs i r) ≡ step_in ev segs leg kept i r
    unfolding all_up step_over step_in
    over_all_lem kept i zero k = refl
    over_all_lem kept i (suc r) k =
        let next = look ev leg kept (seg segs i) i in
        by_test_lem (test (seg segs i))
        (λ y.
        ap (step_over ev segs leg kept) (all_up_turn test segs i r true y)
        ∙ over_turn kept next i (all_up test segs (suc i) r) refl
        ∙ by_test_lem (is_end next)
        (λ z.
        ap (λ (b : Bool). cond b next (step_over ev segs leg next (all_up test segs (suc i) r))) z
        ∙ sym (ap (λ (b : Bool). cond b next (step_in ev segs leg next (suc i) r)) z))
        (λ z. ap (cond (is_end next) next) (over_all_lem next (suc i) r z)))
        (λ y.
        ap (step_over ev segs leg kept) (all_up_turn test segs i r false y)
        ∙ over_all_lem kept (suc i) r k
        ∙ sym (past_in kept i r k (not_weaker (λ (s : Segment). leaves s leg) test segs implies (seg segs i) y)))

  -- THEOREM: through an index as it is to be, the step is that over all segments
  pub step_by_index : (n : ℕ) (first above : List ℕ) → IndexedUp segs n 0 first above → 0 < length first
      → step_by ev segs n first above leg ≡ step_from ev segs n leg
  unfolding step_by
  step_by_index n first above right pos =
      let m = length first in
      let h = bucket_of m leg.body in
      ap (step_over ev segs leg Blocked) (visited_up segs n first above right leg.body pos)
      ∙ over_all_lem (in_bucket m h) (λ s y. eq-eqb _ _ (ap (bucket_of m) (same_z_eq _ _ (and_first _ _ y)))) Blocked 0 n refl
      ∙ sym (step_from_lem ev segs leg n)

module _ (ev : Evaluation) (segs : List Segment) (n : ℕ) where
  -- THEOREM: through an index as it is to be, a body's state about body 0 is that over all segments
  pub to_zero_by_index : (first above : List ℕ) → IndexedUp segs n 0 first above → 0 < length first
      → (leg : Leg) → to_zero_by (step_by ev segs n first above) leg ≡ to_zero ev segs n leg
  unfolding to_zero_by to_zero
  to_zero_by_index first above right pos leg =
      ap (cond (is_zero leg) (Ok leg.total))
      (walk_same ev segs n (step_by ev segs n first above) (λ l. step_by_index ev segs l n first above right pos) chain_limit leg)
