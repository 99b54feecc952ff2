-- A turn of each loop of an opening with an index, over what its calls ensure. Assumes nothing.
use Rattle.std.proofs.Common.{◌≡◌, ℕ, suc, ◌+◌, ◌-◌, ◌≤◌, Bool, List, ◌∙◌, sym, ap, subst, arith, add-one}
use Rattle.segment.specs.declared.Segment.{Segment}
use Rattle.table.specs.Segments.{seg}
use Rattle.table.specs.Marks.{others, marked_to}
use Rattle.index.specs.Parts.{quarter, joined_down, joined_up, joined, emptied, Roomy, RightIndex}
use Rattle.index.proofs.Parts.{joined_next, joined_quarter, emptied_quarter}
use Rattle.indexed.specs.Opening.{others_by}
use Rattle.indexed.proofs.Opening.{others_told}

-- one segment more joins the index
pub join_more : (segs : List Segment) (n i : ℕ) (xs ys zs : List ℕ) (j : ℕ) (s u : Segment)
    → ys ≡ joined segs n i xs → s ≡ seg segs i → j ≡ n - suc i → u ≡ seg segs j → zs ≡ joined_up (joined_down ys i s.target) (n - suc i) u.target
    → zs ≡ joined segs n (i + 1) xs
join_more segs n i xs ys zs j s u so read back far made =
    made
    ∙ ap (λ (x : List ℕ). joined_up (joined_down x i s.target) (n - suc i) u.target) so
    ∙ ap (λ (x : Segment). joined_up (joined_down (joined segs n i xs) i x.target) (n - suc i) u.target) read
    ∙ ap (λ (x : Segment). joined_up (joined_down (joined segs n i xs) i (seg segs i).target) (n - suc i) x.target) (far ∙ ap (seg segs) back)
    ∙ joined_next segs n i xs
    ∙ ap (λ (x : ℕ). joined segs n x xs) (sym (add-one i))

-- there is room as before
pub join_room : (segs : List Segment) (n i : ℕ) (ix ys : List ℕ) → n ≤ quarter ix → i ≤ n → ys ≡ joined segs n i (emptied (quarter ix) ix) → n ≤ quarter ys
join_room segs n i ix ys room most so =
    let e = emptied_quarter ix (quarter ix) in
    let q = joined_quarter segs n (emptied (quarter ix) ix) (omega arith) i most in
    subst (λ (x : List ℕ). n ≤ quarter x) (sym so) (omega arith)

-- what is met through the index is what a scan of all meets, of segments of which the first i are marked
pub rival_told : (segs : List Segment) (n i : ℕ) (ix : List ℕ) (zs : List Segment) (a : Segment) (met : Bool)
    → RightIndex segs n ix → Roomy n ix → zs ≡ marked_to segs n i → a ≡ seg zs i → met ≡ others_by zs n ix a i → met ≡ others zs a i n
rival_told segs n i ix zs a met right roomy so read rival =
    let ms = marked_to segs n i in
    rival ∙ ap (λ (x : Segment). others_by zs n ix x i) read
    ∙ ap (λ (x : List Segment). others_by x n ix (seg x i) i) so
    ∙ others_told segs n i ix right roomy
    ∙ sym (ap (λ (x : List Segment). others x (seg x i) i n) so)
    ∙ ap (λ (x : Segment). others zs x i n) (sym read)
