-- Laws of the step over visited segments: a turn of its loop; over all numbers it is the plain step. Assumes nothing.
use Rattle.std.proofs.Common.{◌≡◌, ℕ, zero, suc, ◌+◌, ◌<◌, Bool, true, false, cond, List, [], ◌∷◌, Option, Some, None, refl, sym, ap, subst, ◌∙◌, arith, add-one}
use Rattle.std.specs.List.{range_with_len}
use Rattle.std.specs.Iterator.{AlwaysYields}
use Rattle.segment.specs.declared.Segment.{Segment}
use Rattle.table.specs.Places.{lent_limit, limit_of}
use Rattle.table.specs.Segments.{seg}
use Rattle.table.specs.Visits.{AllBelow, Visits}
use Rattle.table.proofs.Limits.{limit_most}
use Rattle.chain.specs.declared.Leg.{Leg}
use Rattle.chain.specs.declared.Step.{Step}
use Rattle.chain.specs.declared.Step.TheVariants.{Blocked}
use Rattle.chain.specs.Step.{Evaluation, leaves, look, is_end, step_in, step_from}
use Rattle.chain.specs.Visited.{step_over}
use Rattle.chain.proofs.Steps.{look_past}

module _ (ev : Evaluation) (segs : List Segment) (leg : Leg) where
  -- ---- the scan
  over_none : (kept : Step) → step_over ev segs leg kept [] ≡ kept
  unfolding step_over
  over_none kept = refl

  over_turn : (kept next : Step) (i : ℕ) (rest : List ℕ) (b : Bool) → next ≡ look ev leg kept (seg segs i) i → is_end next ≡ b
      → step_over ev segs leg kept (i ∷ rest) ≡ cond b next (step_over ev segs leg next rest)
  unfolding step_over
  over_turn kept next i rest b e f =
      ap (λ (x : Step). cond (is_end x) x (step_over ev segs leg x rest)) (sym e)
      ∙ ap (λ (t : Bool). cond t next (step_over ev segs leg next rest)) f

  -- over all numbers it is the plain one
  over_upward : (kept : Step) (i r : ℕ) → step_over ev segs leg kept (range_with_len i r) ≡ step_in ev segs leg kept i r
  unfolding step_over step_in
  over_upward kept i zero = refl
  over_upward kept i (suc r) =
      let next = look ev leg kept (seg segs i) i in
      ap (cond (is_end next) next) (over_upward next (i + 1) r ∙ ap (λ (k : ℕ). step_in ev segs leg next k r) (add-one i))

  pub step_upward : (n : ℕ) → step_over ev segs leg Blocked (range_with_len 0 n) ≡ step_from ev segs n leg
  unfolding step_from
  step_upward n = over_upward Blocked 0 n

-- ---- the loop: the whole scan is the scan of what the iterator s has left, from what is kept, which is no end
pub record Along {S : Type 0} (steps : S → Option ℕ → S → Type 0) (n : ℕ) (ev : Evaluation) (segs : List Segment) (leg : Leg) (whole : Step) (s : S) (kept : Step) : Type 0 where
  pub rest : List ℕ
  pub visits : Visits steps s n rest
  pub same : whole ≡ step_over ev segs leg kept rest
  pub unended : is_end kept ≡ false

module _ {S : Type 0} {steps : S → Option ℕ → S → Type 0} {n : ℕ} {ev : Evaluation} {segs : List Segment} {leg : Leg} {whole : Step} {s : S} {kept : Step} where
  -- an item: its number is below n, and then the scan ends, or goes on
  pub along_below : Along steps n ev segs leg whole s kept → (i : ℕ) (t : S) → steps s (Some i) t → i < n
  along_below a i t p = go a.rest a.visits.gives a.visits.below
    where
      go : (ys : List ℕ) → AlwaysYields steps (λ x. x) s ys → AllBelow n ys → i < n
      go [] y b = absurd (y i t p)
      go (y ∷ ys) h b = let P : ℕ → Type 0 = λ x. x < n in subst P (sym (h.1 i t p).0) b.0

  pub along_stops : Along steps n ev segs leg whole s kept → (i : ℕ) (t : S) (next : Step) → steps s (Some i) t → next ≡ look ev leg kept (seg segs i) i
      → is_end next ≡ true → next ≡ whole
  along_stops a i t next p e f = go a.rest a.visits.gives a.same
    where
      go : (ys : List ℕ) → AlwaysYields steps (λ x. x) s ys → whole ≡ step_over ev segs leg kept ys → next ≡ whole
      go [] y q = absurd (y i t p)
      go (y ∷ ys) h q = sym (q ∙ ap (λ (x : ℕ). step_over ev segs leg kept (x ∷ ys)) (sym (h.1 i t p).0) ∙ over_turn ev segs leg kept next i ys true e f)

  pub along_more : Along steps n ev segs leg whole s kept → (i : ℕ) (t : S) (next : Step) → steps s (Some i) t → next ≡ look ev leg kept (seg segs i) i
      → is_end next ≡ false → Along steps n ev segs leg whole t next
  along_more a i t next p e f = go a.rest a.visits.gives a.visits.below a.same
    where
      go : (ys : List ℕ) → AlwaysYields steps (λ x. x) s ys → AllBelow n ys → whole ≡ step_over ev segs leg kept ys → Along steps n ev segs leg whole t next
      go [] y b q = absurd (y i t p)
      go (y ∷ ys) h b q = record {
        rest = ys;
        visits = record { gives = (h.1 i t p).1; below = b.1 };
        same = q ∙ ap (λ (x : ℕ). step_over ev segs leg kept (x ∷ ys)) (sym (h.1 i t p).0) ∙ over_turn ev segs leg kept next i ys false e f;
        unended = f;
      }

  -- no item
  pub along_ends : Along steps n ev segs leg whole s kept → (t : S) → steps s None t → kept ≡ whole
  along_ends a t p = go a.rest a.visits.gives a.same
    where
      go : (ys : List ℕ) → AlwaysYields steps (λ x. x) s ys → whole ≡ step_over ev segs leg kept ys → kept ≡ whole
      go [] y q = sym (q ∙ over_none ev segs leg kept)
      go (y ∷ ys) h q = absurd (h.0 t p)

  -- a segment that is passed over
  pub along_past : Along steps n ev segs leg whole s kept → (i : ℕ) (t : S) → steps s (Some i) t → leaves (seg segs i) leg ≡ false
      → Along steps n ev segs leg whole t kept
  along_past a i t p e = along_more a i t kept p (look_past ev leg kept (seg segs i) i e) a.unended

pub along_in : (places : ℕ) {S : Type 0} {steps : S → Option ℕ → S → Type 0} {ev : Evaluation} {segs : List Segment} {leg : Leg} {whole : Step} {s : S} {kept : Step}
    → Along steps (limit_of places) ev segs leg whole s kept → (i : ℕ) (t : S) → steps s (Some i) t → (i < places) × (i < lent_limit)
along_in places a i t p = let l = along_below a i t p in let m = limit_most places in (omega (arith, l, m.0), omega (arith, l, m.1))
