-- The opening by value is the plan, carried out in 256 empty places. Assumes nothing.
use Rattle.std.proofs.Common.{Ok, Err}
use Prim.Native.Nat.{ℕ, zero, suc, ◌-◌}
use mathlib.Core.Path.{◌≡◌, sym, ap, ◌∙◌}
use mathlib.Core.List.{List, ◌++◌}
use native.Mathlib.Omega.{arith}
use lib.ListN.{length, drop, replicate, length-replicate}
use Rattle.refusal.specs.Order.{Case, first_of, None}
use Rattle.daf.specs.declared.Family.{Family}
use Rattle.daf.specs.declared.Family.TheVariants.{Spk, Pck}
use Rattle.segment.specs.declared.Segment.{Segment}
use Rattle.table.specs.Segments.{empty_segment}
use Rattle.table.specs.Places.{table_limit, empty_places}
use Rattle.opening.specs.declared.Opened.{Opened}
use Rattle.opening.specs.Opening.{places_of, segment_at, segments_of, table_of, marked_for, refused_opening, accepted_opening, opened, open_cases}
use Rattle.opening.specs.Steps.{Plan, filling, start_of, plan_of, carried_out}
use Rattle.opening.specs.Lent.{filled_with, marked_list}
use Rattle.opening.proofs.Planning.{length_map}
use Rattle.opening.proofs.Planned.{first_two, carried_none, carried_all}
use Rattle.owned.specs.Owned.{opened_by}

-- what is left of a run of equal elements
drop_replicate : {A : Type 0} (n m : ℕ) (x : A) → drop n (replicate m x) ≡ replicate (m - n) x
drop_replicate zero m x = ap (λ (l : ℕ). replicate l x) (less m)
  where
    less : (a : ℕ) → a ≡ a - 0
    less a = omega arith
drop_replicate (suc n) zero x = ap (λ (l : ℕ). replicate l x) (none n)
  where
    none : (a : ℕ) → 0 ≡ 0 - suc a
    none a = omega arith
drop_replicate (suc n) (suc m) x = drop_replicate n m x ∙ ap (λ (l : ℕ). replicate l x) (both n m)
  where
    both : (a b : ℕ) → b - a ≡ suc b - suc a
    both a b = omega arith

-- the first places of an empty table filled with these segments, as the by-value table has them
pub filled_empty : (vs : List Segment) → filled_with vs (empty_places table_limit) ≡ vs ++ replicate (table_limit - length vs) empty_segment
unfolding empty_places
filled_empty vs = ap (λ (l : List Segment). vs ++ l) (drop_replicate (length vs) table_limit empty_segment)

-- the marks of the list are the marks of the table
pub marked_table : (f : Family) (n : ℕ) (vs : List Segment) → length vs ≡ n
    → accepted_opening (record { segments = marked_list f n (vs ++ replicate (table_limit - length vs) empty_segment); count = n }) ≡ accepted_opening (marked_for f (table_of vs))
marked_table Spk n vs e = ap (λ (m : ℕ). accepted_opening (record { segments = marked_list Spk m (vs ++ replicate (table_limit - length vs) empty_segment); count = m })) (sym e)
marked_table Pck n vs e = ap (λ (m : ℕ). accepted_opening (record { segments = vs ++ replicate (table_limit - length vs) empty_segment; count = m })) (sym e)

-- by whatever cases it refuses, if there is no refusal but where none of the opening's holds
pub opened_of : (f : Family) (k : List ℕ) (cs : List Case) → (None cs → None (open_cases f table_limit k)) → let p = first_of cs Err (Ok (filling (length (places_of k)) (start_of k))) in
    opened_by p (carried_out f k p (empty_places table_limit)) ≡ first_of cs refused_opening (accepted_opening (marked_for f (table_of (segments_of f k))))
unfolding empty_places
opened_of f k cs h =
    first_two cs Err (Ok (filling (length (places_of k)) (start_of k))) refused_opening (accepted_opening (marked_for f (table_of (segments_of f k))))
    (λ (y : Plan) (o : Opened). opened_by y (carried_out f k y (empty_places table_limit)) ≡ o)
    (λ r. ap (opened_by (Err r)) (carried_none f k r (empty_places table_limit)))
    (λ none. ap (opened_by (Ok (filling (length (places_of k)) (start_of k)))) (carried_all f table_limit k (h none) (empty_places table_limit) (let l = length-replicate table_limit empty_segment in omega arith)
    ∙ ap (marked_list f (length (places_of k))) (filled_empty (segments_of f k)))
    ∙ marked_table f (length (places_of k)) (segments_of f k) (length_map (segment_at f k) (places_of k)))

pub opened_told_lem : (f : Family) (k : List ℕ) → opened_by (plan_of f table_limit k) (carried_out f k (plan_of f table_limit k) (empty_places table_limit)) ≡ opened f k
unfolding plan_of opened
opened_told_lem f k = opened_of f k (open_cases f table_limit k) (λ none. none)
