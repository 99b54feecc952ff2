-- What a plan leaves in 4,096 empty places and in an index, over what the calls that carry it out ensure. Assumes nothing.
use Rattle.std.proofs.Common.{◌≡◌, ℕ, ◌∙◌, List, length, replicate, ap, sym}
use Rattle.std.proofs.lemmas.List.{length-replicate}
use Rattle.daf.specs.declared.Family.{Family}
use Rattle.segment.specs.declared.Segment.{Segment}
use Rattle.table.specs.Segments.{empty_segment}
use Rattle.table.specs.Places.{lent_limit, limit_of, empty_places}
use Rattle.opening.specs.Steps.{Plan, count_in, carried_out}
use Rattle.opening.proofs.Planned.{carried_length}
use Rattle.indexed.specs.Opening.{indexed_by}

module _ (g : Family) (k : List ℕ) (p : Plan) where
  -- how many places there are
  places : (e : Segment) → length (carried_out g k p (replicate lent_limit e)) ≡ lent_limit
  places e = carried_length g k p (replicate lent_limit e) ∙ length-replicate lent_limit e

  -- whatever is made of the table, of how many it holds and of its index, is made of the definition's
  pub as_filled : {X : Type 0} (F : ℕ → List Segment → ℕ → List ℕ → X) (ix : List ℕ) {f : Family} {e : Segment} {segs : List Segment} {own : List ℕ} {n : ℕ}
      → f ≡ g → e ≡ empty_segment → segs ≡ carried_out f k p (replicate lent_limit e)
      → own ≡ indexed_by p (carried_out f k p (replicate lent_limit e)) ix → n ≡ count_in p
      → F (limit_of (length segs)) segs n own
      ≡ F lent_limit (carried_out g k p (empty_places lent_limit)) (count_in p) (indexed_by p (carried_out g k p (empty_places lent_limit)) ix)
  unfolding empty_places
  as_filled F ix {f} {e} {segs} {own} {n} family empty filled kept count =
      let table = filled ∙ ap (λ (x : Family). carried_out x k p (replicate lent_limit e)) family in
      let index = kept ∙ ap (λ (x : Family). indexed_by p (carried_out x k p (replicate lent_limit e)) ix) family in
      ap (λ (x : ℕ). F (limit_of (length segs)) segs x own) count
      ∙ ap (λ (x : List ℕ). F (limit_of (length segs)) segs (count_in p) x) index
      ∙ ap (λ (x : List Segment). F (limit_of (length x)) x (count_in p) (indexed_by p (carried_out g k p (replicate lent_limit e)) ix)) table
      ∙ ap (λ (x : ℕ). F (limit_of x) (carried_out g k p (replicate lent_limit e)) (count_in p) (indexed_by p (carried_out g k p (replicate lent_limit e)) ix)) (places e)
      ∙ ap (λ (x : Segment). F lent_limit (carried_out g k p (replicate lent_limit x)) (count_in p) (indexed_by p (carried_out g k p (replicate lent_limit x)) ix)) empty
