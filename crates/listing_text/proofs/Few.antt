-- How many segments a kernel has at most: 25 for each of its records of 1,024 bytes, and 4,096. Assumes nothing.
use Rattle.std.proofs.Common.{Ok, Err}
use Prim.Native.Nat.{ℕ, zero, suc, ◌*◌, ◌/◌, ◌≤◌, zero-le}
use mathlib.Core.Path.{◌≡◌, sym, ap, ◌∙◌}
use mathlib.Core.Bool.{Bool, true, false, cond, ◌||◌, true≢false}
use mathlib.Core.List.{List, [], ◌∷◌}
use native.Mathlib.Omega.{arith}
use lib.Dec.{ltb, eqb}
use lib.ListN.{length}
use borrow.Author.Tests.{ltb-false}
use Rattle.bits.proofs.Tests.{by_test_lem}
use Rattle.refusal.specs.Order.{None}
use Rattle.daf.specs.FileRecord.{fward}
use Rattle.daf.specs.Opening.{cases, records_of, opening, daf_of}
use Rattle.daf.specs.Summaries.{any_over25, total}
use Rattle.daf.specs.Walk.{next_of, count_of, past_end, among, Walk, Records, PastEnd, Twice, Endless, before, walk_from, walk, records_in}
use Rattle.daf.specs.declared.Family.TheVariants.{Spk}
use Rattle.daf.proofs.Begun.{begun}
use Rattle.table.specs.Places.{lent_limit}
use Rattle.table.proofs.Limits.{limit_most, limit_fits}
use Rattle.opening.specs.Opening.{places_of, segment_cases, open_cases}
use Rattle.opening.specs.Steps.{Plan, filling, start_of, plan_of, count_in}
use Rattle.opening.proofs.Planned.{first_two, none_both, none_answer, few}
use Rattle.streams.specs.Input.{input_limit}
use Rattle.listing_text.specs.Rooms.{segments_in, most_segments, listing_room, output_room}

-- ---- the records of a walk
one_more : (r : ℕ) (w : Walk) → length (records_in (before r w)) ≤ suc (length (records_in w))
one_more r (Records rs) = omega arith
one_more r PastEnd = zero-le
one_more r Twice = zero-le
one_more r Endless = zero-le

-- a turn that ends the walk has none
or_ends : (a b c : Bool) (w : Walk) (n : ℕ) → length (records_in w) ≤ n → length (records_in (cond a (Records []) (cond b PastEnd (cond c Twice w)))) ≤ n
or_ends true b c w n h = zero-le
or_ends false true c w n h = zero-le
or_ends false false true w n h = zero-le
or_ends false false false w n h = h

-- fewer than the walk has turns
walked_few : (k seen : List ℕ) (n r : ℕ) → length (records_in (walk_from k seen (suc n) r)) ≤ n
unfolding walk_from
walked_few k seen zero r = or_ends (eqb r 0) (past_end k r) (among r seen) Endless 0 zero-le
walked_few k seen (suc n) r =
    let rest = walk_from k (r ∷ seen) (suc n) (next_of k r) in
    or_ends (eqb r 0) (past_end k r) (among r seen) (before r rest) (suc n) (omega (arith, one_more r rest, walked_few k (r ∷ seen) n (next_of k r)))

records_few : (k : List ℕ) → length (records_of k) ≤ length k / 1024
unfolding walk
records_few k = walked_few k [] (length k / 1024) (fward k)

-- ---- their segments
total_few : (k rs : List ℕ) → any_over25 k rs ≡ false → total k rs ≤ 25 * length rs
unfolding any_over25 total
total_few k [] h = zero-le
total_few k (r ∷ rs) h =
    by_test_lem (ltb 25 (count_of k r))
    (λ e. absurd (true≢false (sym (ap (λ (b : Bool). b || any_over25 k rs) e) ∙ h)))
    (λ e. omega (arith, ltb-false 25 (count_of k r) e, total_few k rs (sym (ap (λ (b : Bool). b || any_over25 k rs) e) ∙ h)))

places_few : (k : List ℕ) → None (open_cases Spk lent_limit k) → length (places_of k) ≤ segments_in (length k)
unfolding opening
places_few k none =
    let b = begun Spk lent_limit k (daf_of k (fward k)) (none_answer (cases Spk lent_limit k) Err (Ok (daf_of k (fward k))) (none_both (cases Spk lent_limit k) (segment_cases Spk k) none).0) in
    omega (arith, b.count, total_few k (records_of k) b.none_over, records_few k)

-- no plan fills more than a kernel of that length can have
pub plan_few : (k : List ℕ) → count_in (plan_of Spk lent_limit k) ≤ most_segments (length k)
unfolding plan_of most_segments
plan_few k =
    first_two (open_cases Spk lent_limit k) Err (Ok (filling (length (places_of k)) (start_of k))) Err (Ok (filling (length (places_of k)) (start_of k)))
    (λ (p q : Plan). count_in p ≤ most_segments (length k))
    (λ r. zero-le)
    (λ none. limit_fits (segments_in (length k)) (length (places_of k)) (few Spk lent_limit k none) (places_few k none))

-- a kernel that the program takes has room in its output
pub room_most : (k : List ℕ) → ltb input_limit (length k) ≡ false → listing_room (length k) ≤ output_room
unfolding most_segments
room_most k e = omega (arith, ltb-false input_limit (length k) e, (limit_most (segments_in (length k))).0)
