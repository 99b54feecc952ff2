-- What the plan results in: it can be filled, and what is filled and marked by it is what the definitions of `specs/Steps.antt` say.
-- Nothing here speaks of a slice. Assumes nothing.
use Rattle.std.proofs.Common.{Ok, Err}
use Prim.Native.Nat.{ℕ, zero, suc, ◌+◌, ◌≤◌, ◌<◌, zero-le}
use mathlib.Core.Path.{◌≡◌, refl, sym, ap, ap₂, ◌∙◌, subst}
use mathlib.Core.Bool.{Bool, true, false, cond}
use mathlib.Core.List.{List, [], ◌∷◌, ◌++◌, map}
use native.Mathlib.Omega.{arith}
use borrow.Author.Tests.{ltb-false}
use lib.ListN.{length, set, drop}
use lib.Seq.{sets, sets-eq}
use Rattle.bits.proofs.Tests.{by_test_lem}
use Rattle.refusal.specs.declared.Refusal.{Refusal}
use Rattle.refusal.specs.Order.{Case, first_of, None}
use Rattle.refusal.proofs.Exactly.{first_through}
use Rattle.daf.specs.Summaries.{any_over25, place, places, summary_of}
use Rattle.daf.specs.FileRecord.{fward}
use Rattle.daf.specs.Opening.{cases, opening, daf_of}
use Rattle.daf.specs.Steps.{next_cursor, remaining, Standing}
use Rattle.daf.specs.declared.Family.{Family}
use Rattle.daf.specs.declared.Family.TheVariants.{Spk, Pck}
use Rattle.daf.specs.declared.Place.{Place}
use Rattle.daf.specs.declared.Cursor.{Cursor}
use Rattle.daf.proofs.Begun.{begun}
use Rattle.daf.proofs.Cursors.{remaining_seek, remaining_next, standing_seek, standing_next, Proper, proper_seek, proper_next, proper_some}
use Rattle.segment.specs.declared.Segment.{Segment}
use Rattle.table.specs.Marks.{marked_to}
use Rattle.table.proofs.Marks.{marked_none, length_marked}
use Rattle.opening.specs.Opening.{places_of, malformed_summary, well_formed, segment_at, segments_of, segment_cases, open_cases}
use Rattle.table.specs.Places.{limit_of}
use Rattle.opening.specs.Steps.{Plan, filling, start_of, plan_of, found_in, marks_for, cursor_at, Ready, filled, Fits, carried_out}
use Rattle.opening.specs.Lent.{found, filled_with, marked_list, table_after}
use Rattle.table.proofs.Limits.{limit_most}
use Rattle.opening.proofs.Planning.{no_length, length_map, here_told, filled_length, filled_none, filled_next, cursor_none, cursor_next}

-- ---- an order of tests with two found: what holds of each pair of refusals, and of the two answers where no test holds, holds of the found
pub first_two : {A B : Type 0} (cs : List Case) (r : Refusal → A) (a : A) (s : Refusal → B) (b : B) (R : A → B → Type 0)
    → ((x : Refusal) → R (r x) (s x)) → (None cs → R a b) → R (first_of cs r a) (first_of cs s b)
first_two [] r a s b R f g = g tt
first_two (c ∷ cs) r a s b R f g =
    by_test_lem c.holds
    (λ e. subst (λ (t : Bool). R (cond t (r c.gives) (first_of cs r a)) (cond t (s c.gives) (first_of cs s b))) (sym e) (f c.gives))
    (λ e. subst (λ (t : Bool). R (cond t (r c.gives) (first_of cs r a)) (cond t (s c.gives) (first_of cs s b))) (sym e) (first_two cs r a s b R f (λ n. g (e, n))))

pub none_both : (cs ds : List Case) → None (cs ++ ds) → None cs × None ds
none_both [] ds n = (tt, n)
none_both (c ∷ cs) ds n = let rest = none_both cs ds n.1 in ((n.0, rest.0), rest.1)

pub none_answer : {A : Type 0} (cs : List Case) (r : Refusal → A) (a : A) → None cs → first_of cs r a ≡ a
none_answer [] r a n = refl
none_answer (c ∷ cs) r a n = ap (λ (t : Bool). cond t (r c.gives) (first_of cs r a)) n.0 ∙ none_answer cs r a n.1

-- ---- all segments are well-formed
module _ (f : Family) (k : List ℕ) where
  well_most : (ps : List Place) → well_formed f k ps ≤ length ps
  unfolding well_formed
  well_most [] = zero-le
  well_most (p ∷ ps) = go (malformed_summary f k (summary_of f k p)) (well_most ps)
    where
      go : (b : Bool) → well_formed f k ps ≤ length ps → cond b 0 (suc (well_formed f k ps)) ≤ suc (length ps)
      go true h = zero-le
      go false h = omega arith

  well_first : (p : Place) (ps : List Place) → well_formed f k (p ∷ ps) ≡ suc (length ps) → (malformed_summary f k (summary_of f k p) ≡ false) × (well_formed f k ps ≡ length ps)
  unfolding well_formed
  well_first p ps e =
      by_test_lem (malformed_summary f k (summary_of f k p))
      (λ t. absurd (omega (arith, sym (ap (λ (b : Bool). cond b 0 (suc (well_formed f k ps))) t) ∙ e)))
      (λ u. (u, omega (arith, sym (ap (λ (b : Bool). cond b 0 (suc (well_formed f k ps))) u) ∙ e)))

-- ---- an opening that passes every test
module _ (f : Family) (limit : ℕ) (k : List ℕ) (none : None (open_cases f limit k)) where
  begins : opening f limit k ≡ Ok (daf_of k (fward k))
  unfolding opening
  begins = none_answer (cases f limit k) Err (Ok (daf_of k (fward k))) (none_both (cases f limit k) (segment_cases f k) none).0

  pub few : length (places_of k) ≤ limit
  few = let b = begun f limit k (daf_of k (fward k)) begins in let x = b.few in let y = b.count in omega arith

  all_well : well_formed f k (places_of k) ≡ length (places_of k)
  all_well = omega (arith, well_most f k (places_of k), ltb-false (well_formed f k (places_of k)) (length (places_of k)) (none_both (cases f limit k) (segment_cases f k) none).1.0)

  starts : remaining k (start_of k) ≡ places_of k
  starts = let b = begun f limit k (daf_of k (fward k)) begins in remaining_seek k (daf_of k (fward k)).records (fward k) ∙ sym (ap (places k) b.are)

  -- where the filling stands: i places are filled, and what is left at the cursor is what is left of the places, all of it well-formed
  record Filling (ys : List Segment) (i : ℕ) (c : Cursor) : Type 0 where
    stands : Standing k c
    proper : Proper k c
    left : length (places_of k) ≡ i + length (remaining k c)
    well : well_formed f k (remaining k c) ≡ length (remaining k c)
    fill : sets ys 0 (segments_of f k) ≡ sets (filled f k (start_of k) ys i) i (map (segment_at f k) (remaining k c))

  module _ (ys : List Segment) where
    at : (i : ℕ) → i ≤ length (places_of k) → Filling ys i (cursor_at k (start_of k) i)
    at zero le =
        let b = begun f limit k (daf_of k (fward k)) begins in
        subst (Filling ys zero) (sym (cursor_none k (start_of k))) (record {
          stands = standing_seek k (daf_of k (fward k)).records (fward k) b.sound (sym (ap (any_over25 k) b.are) ∙ b.none_over);
          proper = proper_seek k (daf_of k (fward k)).records (fward k);
          left = let e : length (remaining k (start_of k)) ≡ length (places_of k) = ap length starts in omega arith;
          well = ap (well_formed f k) starts ∙ all_well ∙ sym (ap length starts);
          fill = sym (ap₂ (λ (l : List Segment) (ps : List Place). sets l 0 (map (segment_at f k) ps)) (filled_none f k (start_of k) ys) starts);
        })
    at (suc i) le =
        let c = cursor_at k (start_of k) i in
        let rec = at i (omega arith) in
        let l = rec.left in
        let here : c.index < c.count = proper_some k c rec.proper (omega arith) in
        let one : remaining k c ≡ place c.rec c.index ∷ remaining k (next_cursor k c) = remaining_next k c here in
        let m : length (remaining k c) ≡ suc (length (remaining k (next_cursor k c))) = ap length one in
        let w = well_first f k (place c.rec c.index) (remaining k (next_cursor k c)) (sym (ap (well_formed f k) one) ∙ rec.well ∙ m) in
        subst (Filling ys (suc i)) (cursor_next k (start_of k) i) (record {
          stands = standing_next k c here rec.stands;
          proper = proper_next k c;
          left = omega arith;
          well = w.1;
          fill = rec.fill
              ∙ ap (λ (ps : List Place). sets (filled f k (start_of k) ys i) i (map (segment_at f k) ps)) one
              ∙ ap (λ (l : List Segment). sets l (suc i) (map (segment_at f k) (remaining k (next_cursor k c))))
              (ap (set (filled f k (start_of k) ys i) i) (sym (here_told f k c w.0)) ∙ filled_next f k (start_of k) ys i);
        })

    -- a summary stands at each cursor
    pub ready : Ready k (start_of k) (length (places_of k))
    unfolding Ready
    ready i less =
        let rec = at i (omega arith) in
        let l = rec.left in
        (rec.stands, proper_some k (cursor_at k (start_of k) i) rec.proper (omega arith))

    -- all are filled
    pub full : length (places_of k) ≤ length ys → filled f k (start_of k) ys (length (places_of k)) ≡ filled_with (segments_of f k) ys
    full le =
        let rec = at (length (places_of k)) (omega arith) in
        let l = rec.left in
        let nothing : remaining k (cursor_at k (start_of k) (length (places_of k))) ≡ [] = no_length (remaining k (cursor_at k (start_of k) (length (places_of k)))) (omega arith) in
        let count : length (segments_of f k) ≡ length (places_of k) = length_map (segment_at f k) (places_of k) in
        sym (rec.fill ∙ ap (λ (ps : List Place). sets (filled f k (start_of k) ys (length (places_of k))) (length (places_of k)) (map (segment_at f k) ps)) nothing)
        ∙ sets-eq (segments_of f k) ys 0 (omega arith)
        ∙ ap (λ (m : ℕ). segments_of f k ++ drop m ys) (from_zero (length (segments_of f k)))
      where
        from_zero : (m : ℕ) → 0 + m ≡ m
        from_zero m = omega arith

-- ---- the plan can be carried out, by whatever cases it refuses, if there is no refusal but where none of the opening's holds
pub plan_fits : (f : Family) (limit places : ℕ) (k : List ℕ) (cs : List Case) → (None cs → None (open_cases f limit k)) → limit ≤ places
    → Fits places k (first_of cs Err (Ok (filling (length (places_of k)) (start_of k))))
unfolding Ready
plan_fits f limit places k cs h le =
    first_two cs Err (Ok (filling (length (places_of k)) (start_of k))) Err (Ok (filling (length (places_of k)) (start_of k)))
    (λ (y z : Plan). Fits places k y)
    (λ r. (zero-le, λ i less. absurd (omega (arith, less))))
    (λ none. (omega (arith, few f limit k (h none), le), ready f limit k (h none) []))

pub plan_ready : (f : Family) (places : ℕ) (k : List ℕ) → Fits places k (plan_of f (limit_of places) k)
unfolding plan_of
plan_ready f places k = plan_fits f (limit_of places) places k (open_cases f (limit_of places) k) (λ none. none) (limit_most places).0

pub marks_most : (f : Family) (n : ℕ) → marks_for f n ≤ n
marks_most Spk n = omega arith
marks_most Pck n = zero-le

-- ---- what it results in
pub found_told_lem : (f : Family) (limit : ℕ) (k : List ℕ) → found_in (plan_of f limit k) ≡ found f limit k
unfolding plan_of found
found_told_lem f limit k = sym (first_through (open_cases f limit k) Err (Ok (filling (length (places_of k)) (start_of k))) found_in)

no_marks : (f : Family) (segs : List Segment) → marked_to segs (marks_for f zero) (marks_for f zero) ≡ segs
no_marks Spk segs = sym (marked_none segs zero)
no_marks Pck segs = sym (marked_none segs zero)

all_marks : (f : Family) (n : ℕ) (segs : List Segment) → marked_to segs (marks_for f n) (marks_for f n) ≡ marked_list f n segs
all_marks Spk n segs = refl
all_marks Pck n segs = sym (marked_none segs zero)

-- a plan that refuses leaves all
pub carried_none : (f : Family) (k : List ℕ) (r : Refusal) (ys : List Segment) → carried_out f k (Err r) ys ≡ ys
carried_none f k r ys = no_marks f (filled f k _ ys zero) ∙ filled_none f k _ ys

-- one that fills
pub carried_all : (f : Family) (limit : ℕ) (k : List ℕ) → None (open_cases f limit k) → (ys : List Segment) → limit ≤ length ys
    → carried_out f k (Ok (filling (length (places_of k)) (start_of k))) ys ≡ marked_list f (length (places_of k)) (filled_with (segments_of f k) ys)
carried_all f limit k none ys h =
    all_marks f (length (places_of k)) (filled f k (start_of k) ys (length (places_of k)))
    ∙ ap (marked_list f (length (places_of k))) (full f limit k none ys (omega (arith, few f limit k none, h)))

pub table_told : (f : Family) (k : List ℕ) (ys : List Segment) → carried_out f k (plan_of f (limit_of (length ys)) k) ys ≡ table_after f (limit_of (length ys)) k ys
unfolding plan_of table_after
table_told f k ys =
    first_two (open_cases f (limit_of (length ys)) k) Err (Ok (filling (length (places_of k)) (start_of k))) (λ r. ys) (marked_list f (length (places_of k)) (filled_with (segments_of f k) ys))
    (λ (y : Plan) (l : List Segment). carried_out f k y ys ≡ l)
    (λ r. carried_none f k r ys)
    (λ none. carried_all f (limit_of (length ys)) k none ys (limit_most (length ys)).0)

-- an opening changes no length
pub carried_length : (f : Family) (k : List ℕ) (p : Plan) (ys : List Segment) → length (carried_out f k p ys) ≡ length ys
carried_length f k p ys = length_marked _ _ _ ∙ filled_length f k _ ys _

pub table_length : (f : Family) (k : List ℕ) (ys : List Segment) → length (table_after f (limit_of (length ys)) k ys) ≡ length ys
table_length f k ys = sym (ap length (table_told f k ys)) ∙ carried_length f k (plan_of f (limit_of (length ys)) k) ys
