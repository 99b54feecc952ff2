-- A turn of each loop over the places of a table, over what its calls ensure. Assumes nothing.
use Rattle.std.proofs.Common.{◌≡◌, ℕ, suc, ◌+◌, Bool, List, ◌∙◌, sym, ap, arith, set, not}
use Rattle.segment.specs.declared.Segment.{Segment}
use Rattle.table.specs.Segments.{seg, with_mark}
use Rattle.table.specs.Marks.{others, marked_to}
use Rattle.table.proofs.Marks.{marked_more}
use Rattle.daf.specs.declared.Family.{Family}
use Rattle.daf.specs.declared.Cursor.{Cursor}
use Rattle.daf.specs.Steps.{next_cursor}
use Rattle.opening.specs.Steps.{cursor_at, here_of, filled}
use Rattle.opening.proofs.Planning.{filled_next, cursor_next}

-- one place more is filled
pub fill_more : (f : Family) (k : List ℕ) (start : Cursor) (segs : List Segment) (i : ℕ) (zs ws : List Segment) (c d : Cursor) (s : Segment)
    → zs ≡ filled f k start segs i → c ≡ cursor_at k start i → s ≡ here_of f k c → ws ≡ set zs i s → d ≡ next_cursor k c
    → (ws ≡ filled f k start segs (i + 1)) × (d ≡ cursor_at k start (i + 1))
fill_more f k start segs i zs ws c d s so at read stored next =
    let up : suc i ≡ i + 1 = omega arith in (
      stored ∙ ap (set zs i) (read ∙ ap (here_of f k) at) ∙ ap (λ (x : List Segment). set x i (here_of f k (cursor_at k start i))) so ∙ filled_next f k start segs i
          ∙ ap (filled f k start segs) up,
      next ∙ ap (next_cursor k) at ∙ cursor_next k start i ∙ ap (cursor_at k start) up,
    )

-- one segment more is marked
pub mark_more : (segs : List Segment) (n i : ℕ) (zs ws : List Segment) (a : Segment) (met : Bool) (s : Segment)
    → zs ≡ marked_to segs n i → a ≡ seg zs i → met ≡ others zs a i n → s ≡ with_mark a (not met) → ws ≡ set zs i s
    → ws ≡ marked_to segs n (i + 1)
mark_more segs n i zs ws a met s so read rival made stored =
    let own = read ∙ ap (λ (x : List Segment). seg x i) so in
    let told = sym (rival ∙ ap (λ (x : List Segment). others x a i n) so ∙ ap (λ (x : Segment). others (marked_to segs n i) x i n) own) in
    stored ∙ ap (set zs i) (made ∙ ap (λ (x : Segment). with_mark x (not met)) own)
    ∙ ap (λ (x : List Segment). set x i (with_mark (seg (marked_to segs n i) i) (not met))) so
    ∙ marked_more segs n i met told
