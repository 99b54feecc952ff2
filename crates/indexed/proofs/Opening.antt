-- The opening into a lent table and its index: a law for each way through the code; the index that it leaves is right. Assumes nothing.
use Rattle.std.proofs.Common.{Result, Ok, Err}
use mathlib.Core.Path.{◌≡◌, refl, sym, ap, ap₂, subst, ◌∙◌}
use mathlib.Core.Bool.{Bool, true, false, cond, not, true≢false, false≢true}
use mathlib.Core.List.{List}
use Prim.Native.Nat.{ℕ, ◌≤◌, ◌<◌}
use native.Mathlib.Omega.{arith}
use lib.ListN.{length}
use Rattle.bits.proofs.Tests.{by_test_lem}
use Rattle.daf.specs.declared.Family.{Family}
use Rattle.daf.specs.declared.Family.TheVariants.{Spk, Pck}
use Rattle.segment.specs.declared.Segment.{Segment}
use Rattle.table.specs.Places.{lent_limit, limit_of}
use Rattle.table.specs.Segments.{seg}
use Rattle.table.specs.Marks.{others, marked_to}
use Rattle.table.proofs.Limits.{limit_most}
use Rattle.table.proofs.Marks.{marked_none}
use Rattle.opening.specs.declared.Filling.{Filling}
use Rattle.opening.specs.Steps.{Plan, count_in, found_in, marks_for, plan_of, carried_out}
use Rattle.opening.specs.Opening.{open_cases}
use Rattle.opening.specs.Lent.{found, table_after}
use Rattle.opening.proofs.Planned.{plan_fits, found_told_lem, table_told}
use Rattle.index.specs.Parts.{quarter, room_in, has_room, Roomy, emptied, joined, filled_index, RightIndex}
use Rattle.index.proofs.Parts.{room_yes, length_last, filled_right, filled_length, filled_same}
use Rattle.index.proofs.Marking.{others_by_index, indexed_marked, marked_targets}
use Rattle.indexed.specs.Opening.{others_by, takes, indexed_by, index_with, index_after}
use Rattle.refusal.specs.declared.Refusal.{Refusal}

-- ---- marks: after each, the index is still right, so what the walk meets is what a scan of all meets
pub others_told : (segs : List Segment) (n i : ℕ) (ix : List ℕ) → RightIndex segs n ix → Roomy n ix → let zs = marked_to segs n i in
    others_by zs n ix (seg zs i) i ≡ others zs (seg zs i) i n
others_told segs n i ix right roomy =
    let e = length_last ix in
    let b = roomy.bucket in
    others_by_index (marked_to segs n i) (seg (marked_to segs n i) i) i n _ _ (indexed_marked segs n i _ _ right.down) (omega arith)

pub marks_nothing : (segs : List Segment) (n : ℕ) → n < 1 → segs ≡ marked_to segs n n
marks_nothing segs n l = marked_none segs n ∙ ap (marked_to segs n) {x = 0} {y = n} (omega arith)

-- ---- the index
pub filled_told : (segs : List Segment) (n : ℕ) (ix : List ℕ) → joined segs n n (emptied (quarter ix) ix) ≡ filled_index segs n ix
unfolding filled_index
filled_told segs n ix = refl

pub limit_less : (n : ℕ) → n ≤ lent_limit → n < 65535
limit_less n l = omega arith

not_yes : (b : Bool) → not b ≡ true → b ≡ false
not_yes true e = absurd (false≢true e)
not_yes false e = refl

not_no : (b : Bool) → not b ≡ false → b ≡ true
not_no true e = refl
not_no false e = absurd (true≢false e)

module _ (p : Plan) (segs : List Segment) (ix : List ℕ) where
  by : Bool → List ℕ
  by b = cond b (filled_index segs (count_in p) ix) ix

  pub skipped : not (takes (length ix) p) ≡ true → ix ≡ indexed_by p segs ix
  unfolding indexed_by by
  skipped e = sym (ap by (not_yes (takes (length ix) p) e))

  pub taken : not (takes (length ix) p) ≡ false → filled_index segs (count_in p) ix ≡ indexed_by p segs ix
  unfolding indexed_by by
  taken e = sym (ap by (not_no (takes (length ix) p) e))

takes_yes : (p : Plan) (ix : List ℕ) → takes (length ix) p ≡ true → Roomy (count_in p) ix
takes_yes (Ok p) ix e = room_yes p.count ix e
takes_yes (Err r) ix e = absurd (false≢true e)

pub takes_room : (p : Plan) (ix : List ℕ) → not (takes (length ix) p) ≡ false → Roomy (count_in p) ix
takes_room p ix e = takes_yes p ix (not_no (takes (length ix) p) e)

pub indexed_length : (p : Plan) (segs : List Segment) (ix : List ℕ) → length (indexed_by p segs ix) ≡ length ix
indexed_length p segs ix =
    by_test_lem (not (takes (length ix) p))
    (λ e. ap length (sym (skipped p segs ix e)))
    (λ e. ap length (sym (taken p segs ix e)) ∙ filled_length segs (count_in p) ix (takes_room p ix e).room)

-- ---- what the marks ask of the index: where it has room, it was filled
marked_count : (f : Family) (n : ℕ) → 0 < marks_for f n → marks_for f n ≡ n
marked_count Spk n l = refl
marked_count Pck n l = let no : ⊥ = omega arith in absurd no

room_takes : (p : Plan) (ix : List ℕ) → 0 < count_in p → room_in (count_in p) (length ix) ≡ true → takes (length ix) p ≡ true
room_takes (Ok p) ix l e = e
room_takes (Err r) ix l e = let no : ⊥ = omega arith in absurd no

pub right_for : (f : Family) (p : Plan) (segs : List Segment) (ix : List ℕ) → let m = marks_for f (count_in p) in
    0 < m → has_room m (indexed_by p segs ix) ≡ true → RightIndex segs m (indexed_by p segs ix)
right_for f p segs ix l e =
    let n = count_in p in
    let c = marked_count f n l in
    let here : room_in n (length ix) ≡ true = sym (ap₂ room_in c (indexed_length p segs ix)) ∙ e in
    let on : takes (length ix) p ≡ true = room_takes p ix (omega arith) here in
    let off : not (takes (length ix) p) ≡ false = ap not on in
    subst (λ (k : ℕ). RightIndex segs k (indexed_by p segs ix)) (sym c)
    (subst (RightIndex segs n) (taken p segs ix off) (filled_right segs n ix (takes_yes p ix on)))

-- ---- the opening
pub plan_limit : (f : Family) (places : ℕ) (k : List ℕ) → count_in (plan_of f (limit_of places) k) ≤ lent_limit
unfolding plan_of
plan_limit f places k = (plan_fits f (limit_of places) lent_limit k (open_cases f (limit_of places) k) (λ none. none) (limit_most places).1).0

-- the index goes by the targets, which the marks leave
index_same : (p : Plan) (segs zs : List Segment) (ix : List ℕ) → filled_index segs (count_in p) ix ≡ filled_index zs (count_in p) ix → indexed_by p segs ix ≡ indexed_by p zs ix
unfolding indexed_by
index_same p segs zs ix e = ap (λ (l : List ℕ). cond (takes (length ix) p) l ix) e

pub index_marked : (p : Plan) (segs : List Segment) (m : ℕ) (ix : List ℕ) → indexed_by p segs ix ≡ indexed_by p (marked_to segs m m) ix
index_marked p segs m ix = index_same p segs (marked_to segs m m) ix (sym (filled_same segs (marked_to segs m m) (marked_targets segs m m) (count_in p) ix))

index_by : (p : Plan) (segs : List Segment) (ix : List ℕ) → indexed_by p segs ix ≡ index_with (found_in p) segs ix
unfolding indexed_by
index_by (Ok p) segs ix = refl
index_by (Err r) segs ix = refl

pub index_told : (f : Family) (k : List ℕ) (segs : List Segment) (ix : List ℕ) → let limit = limit_of (length segs) in let p = plan_of f limit k in
    indexed_by p (carried_out f k p segs) ix ≡ index_after f limit k segs ix
unfolding index_after
index_told f k segs ix =
    let limit = limit_of (length segs) in
    let p = plan_of f limit k in
    index_by p (carried_out f k p segs) ix ∙ ap₂ (λ (r : Result ℕ Refusal) (l : List Segment). index_with r l ix) (found_told_lem f limit k) (table_told f k segs)

-- an index that is filled where it has room is right where it has room
right_with : (n : ℕ) (segs : List Segment) (ix : List ℕ) → let after = cond (has_room n ix) (filled_index segs n ix) ix in has_room n after ≡ true → RightIndex segs n after
right_with n segs ix r =
    let by : Bool → List ℕ = λ b. cond b (filled_index segs n ix) ix in
    by_test_lem (has_room n ix)
    (λ y. subst (RightIndex segs n) (sym (ap by y)) (filled_right segs n ix (room_yes n ix y)))
    (λ y. absurd (true≢false (sym r ∙ ap (has_room n) (ap by y) ∙ y)))

-- THEOREM: the index that an accepted opening left is right for the table that it left, where it has room for the segments
pub opened_right : (f : Family) (limit : ℕ) (k : List ℕ) (segs : List Segment) (ix : List ℕ) (n : ℕ) → found f limit k ≡ Ok n
    → has_room n (index_after f limit k segs ix) ≡ true → RightIndex (table_after f limit k segs) n (index_after f limit k segs ix)
unfolding index_after
opened_right f limit k segs ix n e r =
    let after = table_after f limit k segs in
    let is = ap (λ (x : Result ℕ Refusal). index_with x after ix) e in
    subst (RightIndex after n) (sym is) (right_with n after ix (sym (ap (has_room n) is) ∙ r))

-- .. and so is the one that a plan which fills left
pub planned_right : (x : Filling) (segs : List Segment) (ix : List ℕ) → has_room x.count (indexed_by (Ok x) segs ix) ≡ true → RightIndex segs x.count (indexed_by (Ok x) segs ix)
unfolding indexed_by
planned_right x segs ix r = right_with x.count segs ix r
