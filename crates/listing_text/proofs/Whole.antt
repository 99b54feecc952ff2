-- The whole text of a listing, over what the calls of `put_text` ensure. Assumes nothing.
use Rattle.std.proofs.Common.{◌≡◌, ℕ, ◌≤◌, ◌++◌, ◌∙◌, List, length, replicate, ap, subst}
use Rattle.segment.specs.declared.Segment.{Segment}
use Rattle.daf.specs.declared.Family.TheVariants.{Spk}
use Rattle.table.specs.Places.{lent_limit, empty_places}
use Rattle.table.specs.Segments.{empty_segment}
use Rattle.opening.specs.Steps.{Plan, count_in, plan_of, carried_out}
use Rattle.lines.specs.declared.Page.{Page}
use Rattle.lines.specs.Written.{Put}
use Rattle.lines.proofs.Texts.{then}
use Rattle.listing_text.specs.Steps.{first_text}
use Rattle.listing_text.specs.Text.{listing_text, segments_from, table_in}
use Rattle.listing_text.specs.Rooms.{most_segments}
use Rattle.listing_text.proofs.Texts.{plan_text, table_in_lem}
use Rattle.listing_text.proofs.Few.{plan_few}

module _ (k : List ℕ) {p : Plan} (plan : p ≡ plan_of Spk lent_limit k) where
  -- how many lines follow the first
  pub lines_few : {n : ℕ} → n ≡ count_in p → n ≤ most_segments (length k)
  lines_few e = rw (e, plan) (plan_few k)

  -- the places that were lent are those of the definition
  table_as : {e : Segment} {segs : List Segment} → e ≡ empty_segment → segs ≡ carried_out Spk k p (replicate lent_limit e) → segs ≡ table_in k
  unfolding empty_places
  table_as {e} {segs} empty filled =
      filled ∙ ap (λ (q : Plan). carried_out Spk k q (replicate lent_limit e)) plan
      ∙ ap (λ (s : Segment). carried_out Spk k (plan_of Spk lent_limit k) (replicate lent_limit s)) empty
      ∙ table_in_lem k

  -- the first line, then the others
  pub whole_text : {e : Segment} {segs : List Segment} {n : ℕ} {before middle after : Page}
      → e ≡ empty_segment → segs ≡ carried_out Spk k p (replicate lent_limit e) → n ≡ count_in p
      → Put before (first_text p) middle → Put middle (segments_from segs 0 n) after → Put before (listing_text k) after
  whole_text {segs = segs} {before = before} {after = after} empty filled count first rest =
      subst (λ (l : List ℕ). Put before l after)
      (ap (λ (m : ℕ). first_text p ++ segments_from segs 0 m) count
      ∙ ap (λ (q : Plan). first_text q ++ segments_from segs 0 (count_in q)) plan
      ∙ plan_text k segs (table_as empty filled))
      (then first rest)
