-- Laws of the plan of an opening: of the judging of its segments, one for each way through the loop of `plan_from`; of the plan; and that
-- what is filled and marked by the plan is what the definitions say. Nothing here speaks of a slice. Assumes nothing.
use Rattle.std.proofs.Common.{Result, Ok, Err}
use Prim.Native.Nat.{ℕ, zero, suc, ◌+◌, ◌*◌, ◌≤◌, ◌<◌}
use mathlib.Core.Path.{◌≡◌, refl, sym, ap, ap₂, ◌∙◌, subst}
use mathlib.Core.Bool.{Bool, true, false, cond}
use mathlib.Core.List.{List, [], ◌∷◌, map}
use native.Mathlib.Omega.{arith}
use borrow.Author.Tests.{lt-ltb, le-ltb}
use lib.ListN.{length, set, length-set}
use Rattle.bits.proofs.Tests.{by_test_lem}
use Rattle.refusal.specs.declared.Refusal.{Refusal}
use Rattle.refusal.specs.declared.Refusal.TheVariants.{Malformed}
use Rattle.refusal.specs.Order.{Case, first_of}
use Rattle.refusal.proofs.Exactly.{first_append, first_through}
use Rattle.daf.specs.Summaries.{any_over25, place, places, summary_of}
use Rattle.daf.specs.FileRecord.{fward}
use Rattle.daf.specs.Opening.{cases, opening, daf_of}
use Rattle.daf.specs.Steps.{Sound, seek_of, next_cursor, remaining, Standing}
use Rattle.daf.specs.declared.Family.{Family}
use Rattle.daf.specs.declared.Daf.{Daf}
use Rattle.daf.specs.declared.Place.{Place}
use Rattle.daf.specs.declared.Cursor.{Cursor}
use Rattle.daf.proofs.Begun.{begun}
use Rattle.daf.proofs.Cursors.{remaining_seek, remaining_next, standing_seek, standing_next, Proper, proper_seek, proper_next, proper_some, stands_here, stands_few}
use Rattle.segment.specs.Malformed.{segment_of, judged}
use Rattle.segment.specs.declared.Segment.{Segment}
use Rattle.table.specs.Segments.{empty_segment}
use Rattle.std.proofs.Common.{Option, Some, None, unwrap_or}
use Rattle.table.specs.Places.{lent_limit}
use Rattle.opening.specs.Opening.{places_of, malformed_summary, well_formed, segment_at, segment_cases}
use Rattle.opening.specs.Steps.{Plan, filling, start_of, planned_from, plan_of, Here, cursor_at, Ready, here_of, filled}

-- an accepted opening of the container is the one of the definition
first_answer : (cs : List Case) (a d : Daf) → first_of cs Err (Ok a) ≡ Ok d → a ≡ d
first_answer [] a d e = cc
first_answer (c ∷ cs) a d e =
    by_test_lem c.holds
    (λ q. absurd (never c.gives (sym (ap (λ (b : Bool). cond b (Err c.gives) (first_of cs Err (Ok a))) q) ∙ e)))
    (λ q. first_answer cs a d (sym (ap (λ (b : Bool). cond b (Err c.gives) (first_of cs Err (Ok a))) q) ∙ e))
  where
    never : (r : Refusal) → Err r ≡ Ok d → ⊥
    never r q = let z : ◌≡◌ {A = ℕ} 0 1 = cc in omega arith

accepted_daf : (f : Family) (limit : ℕ) (k : List ℕ) (d : Daf) → opening f limit k ≡ Ok d → daf_of k (fward k) ≡ d
unfolding opening
accepted_daf f limit k d e = first_answer (cases f limit k) (daf_of k (fward k)) d e

pub no_length : {A : Type 0} (l : List A) → length l ≡ 0 → l ≡ []
no_length [] e = refl
no_length (x ∷ l) e = absurd (omega arith)

pub length_map : {A B : Type 0} (g : A → B) (l : List A) → length (map g l) ≡ length l
length_map g [] = refl
length_map g (x ∷ l) = ap suc (length_map g l)

-- ---- what `judge` says
module _ (f : Family) (k : List ℕ) where
  bad_at : (p : Place) → judged f k (summary_of f k p) ≡ None → malformed_summary f k (summary_of f k p) ≡ true
  unfolding judged
  bad_at p e = by_test_lem (malformed_summary f k (summary_of f k p)) (λ t. t) (λ u. absurd (never (sym (ap (λ (b : Bool). cond b None (Some (segment_of f k (summary_of f k p)))) u) ∙ e)))
    where
      never : Some (segment_of f k (summary_of f k p)) ≡ None → ⊥
      never q = let z : ◌≡◌ {A = ℕ} 0 1 = cc in omega arith

  fine_at : (p : Place) (x : Segment) → judged f k (summary_of f k p) ≡ Some x → malformed_summary f k (summary_of f k p) ≡ false
  unfolding judged
  fine_at p x e = by_test_lem (malformed_summary f k (summary_of f k p)) (λ t. absurd (never (sym (ap (λ (b : Bool). cond b None (Some (segment_of f k (summary_of f k p)))) t) ∙ e))) (λ u. u)
    where
      never : None ≡ Some x → ⊥
      never q = let z : ◌≡◌ {A = ℕ} 0 1 = cc in omega arith

  -- a well-formed summary gives its segment
  pub here_told : (c : Cursor) → malformed_summary f k (summary_of f k (place c.rec c.index)) ≡ false → here_of f k c ≡ segment_at f k (place c.rec c.index)
  unfolding here_of judged
  here_told c e = ap (λ (b : Bool). unwrap_or (cond b None (Some (segment_at f k (place c.rec c.index)))) empty_segment) e

  -- ---- where the loop of `plan_from` stands: i of n segments are judged, and what is left at the cursor is what is left of the places
  pub record Judging (n : ℕ) (i : ℕ) (c : Cursor) : Type 0 where
    pub few : n ≤ lent_limit
    pub all : n ≡ length (places_of k)
    pub stands : Standing k c
    pub proper : Proper k c
    pub left : n ≡ i + length (remaining k c)
    pub well : well_formed f k (places_of k) ≡ i + well_formed f k (remaining k c)

  starts : (limit : ℕ) (d : Daf) → opening f limit k ≡ Ok d → remaining k (seek_of k d.first d.records) ≡ places_of k
  starts limit d e = remaining_seek k d.records d.first ∙ sym (ap (places k) (begun f limit k d e).are)

  pub judging_starts : (limit : ℕ) (d : Daf) (c : Cursor) → (limit ≤ lent_limit) × (opening f limit k ≡ Ok d) → c ≡ seek_of k d.first d.records → Judging d.summaries 0 c
  judging_starts limit d c h q =
      let b = begun f limit k d h.1 in
      let r : remaining k c ≡ places_of k = ap (remaining k) q ∙ starts limit d h.1 in
      let l : length (remaining k c) ≡ length (places_of k) = ap length r in
      let w : well_formed f k (remaining k c) ≡ well_formed f k (places_of k) = ap (well_formed f k) r in
      record {
        few = let x = b.few in let y = h.0 in omega arith;
        all = b.count;
        stands = subst (Standing k) (sym q) (standing_seek k d.records d.first b.sound (sym (ap (any_over25 k) b.are) ∙ b.none_over));
        proper = subst (Proper k) (sym q) (proper_seek k d.records d.first);
        left = let x = b.count in omega arith;
        well = omega arith;
      }

  pub starts_sound : (limit : ℕ) (d : Daf) → opening f limit k ≡ Ok d → Sound k d.first d.records
  starts_sound limit d e = (begun f limit k d e).sound

  module _ (n i : ℕ) (c : Cursor) (at : Judging n i c) (more : i < n) where
    pub here : c.index < c.count
    here = let l = at.left in proper_some k c at.proper (omega arith)

    pub below : i < lent_limit
    below = let h = at.few in omega arith

    -- it is malformed
    pub judged_bad : judged f k (summary_of f k (place c.rec c.index)) ≡ None → Err (Malformed i) ≡ planned_from f k
    unfolding planned_from well_formed
    judged_bad b =
        let one = remaining_next k c here in
        let w : well_formed f k (remaining k c) ≡ 0 = ap (well_formed f k) one ∙ ap (λ (t : Bool). cond t 0 (suc (well_formed f k (remaining k (next_cursor k c))))) (bad_at (place c.rec c.index) b) in
        let all = at.all in
        let well = at.well in
        let e : well_formed f k (places_of k) ≡ i = omega arith in
        sym (rw (e, lt-ltb i (length (places_of k)) (omega arith)))

    -- it is well-formed, and the next one follows
    pub judged_on : (x : Segment) (next : Cursor) → judged f k (summary_of f k (place c.rec c.index)) ≡ Some x → next ≡ next_cursor k c → Judging n (i + 1) next
    unfolding well_formed
    judged_on x next b q =
        let one : remaining k c ≡ place c.rec c.index ∷ remaining k next = remaining_next k c here ∙ ap (λ (y : Cursor). place c.rec c.index ∷ remaining k y) (sym q) in
        let l : length (remaining k c) ≡ suc (length (remaining k next)) = ap length one in
        let w : well_formed f k (remaining k c) ≡ suc (well_formed f k (remaining k next)) = ap (well_formed f k) one ∙ ap (λ (t : Bool). cond t 0 (suc (well_formed f k (remaining k next)))) (fine_at (place c.rec c.index) x b) in
        let left = at.left in
        let well = at.well in
        record {
          few = at.few;
          all = at.all;
          stands = subst (Standing k) (sym q) (standing_next k c here at.stands);
          proper = subst (Proper k) (sym q) (proper_next k c);
          left = omega arith;
          well = omega arith;
        }

  -- all are well-formed
  pub judged_all : (n i : ℕ) (c : Cursor) (limit : ℕ) (d : Daf) (start : Cursor) → Judging n i c → n ≤ i → opening f limit k ≡ Ok d → start ≡ seek_of k d.first d.records → Ok (filling n start) ≡ planned_from f k
  unfolding planned_from well_formed
  judged_all n i c limit d start at done e q =
      let left = at.left in
      let all = at.all in
      let none : remaining k c ≡ [] = no_length (remaining k c) (omega arith) in
      let w : well_formed f k (remaining k c) ≡ 0 = ap (well_formed f k) none in
      let well = at.well in
      rw (le-ltb (well_formed f k (places_of k)) (length (places_of k)) (omega arith))
      (ap₂ (λ (x : ℕ) (y : Cursor). Ok (filling x y)) all (q ∙ ap (λ (x : Daf). seek_of k x.first x.records) (sym (accepted_daf f limit k d e))))

-- ---- the plan
after_daf : Family → List ℕ → Result Daf Refusal → Plan
after_daf f k (Err r) = Err r
after_daf f k (Ok d) = planned_from f k

plan_by : (f : Family) (limit : ℕ) (k : List ℕ) → plan_of f limit k ≡ after_daf f k (opening f limit k)
unfolding plan_of planned_from opening after_daf
plan_by f limit k =
    first_append (cases f limit k) (segment_cases f k) Err (Ok (filling (length (places_of k)) (start_of k)))
    ∙ first_through (cases f limit k) Err (Ok (daf_of k (fward k))) (after_daf f k)

module _ (f : Family) (limit : ℕ) (k : List ℕ) where
  pub plan_refused : (r : Refusal) → opening f limit k ≡ Err r → Err r ≡ plan_of f limit k
  unfolding after_daf
  plan_refused r e = sym (plan_by f limit k ∙ ap (after_daf f k) e)

  pub plan_read : (d : Daf) → opening f limit k ≡ Ok d → planned_from f k ≡ plan_of f limit k
  unfolding after_daf
  plan_read d e = sym (plan_by f limit k ∙ ap (after_daf f k) e)

-- ---- filling
module _ (f : Family) (k : List ℕ) (c : Cursor) (segs : List Segment) where
  pub filled_length : (n : ℕ) → length (filled f k c segs n) ≡ length segs
  unfolding filled
  filled_length zero = refl
  filled_length (suc n) = length-set (filled f k c segs n) n (here_of f k (cursor_at k c n)) ∙ filled_length n

  pub filled_none : filled f k c segs zero ≡ segs
  unfolding filled
  filled_none = refl

  pub filled_next : (n : ℕ) → set (filled f k c segs n) n (here_of f k (cursor_at k c n)) ≡ filled f k c segs (suc n)
  unfolding filled
  filled_next n = refl

pub cursor_none : (k : List ℕ) (c : Cursor) → cursor_at k c zero ≡ c
unfolding cursor_at
cursor_none k c = refl

pub cursor_next : (k : List ℕ) (c : Cursor) (i : ℕ) → next_cursor k (cursor_at k c i) ≡ cursor_at k c (suc i)
unfolding cursor_at
cursor_next k c i = refl

pub ready_at : (k : List ℕ) (c : Cursor) (n i : ℕ) → Ready k c n → i < n → Here k (cursor_at k c i)
unfolding Ready
ready_at k c n i h = h i

pub here_stands : (k : List ℕ) (c : Cursor) → Here k c → (1 ≤ c.rec) × (1024 * (c.rec + 1) ≤ length k) × (c.index < 25)
here_stands k c h = let s = stands_here k c h.0 h.1 in (s.0, s.1, stands_few k c h.0 h.1)

-- ---- the ways of `segment_here`
module _ (f : Family) (k : List ℕ) (c : Cursor) where
  pub here_as : (j : Option Segment) → judged f k (summary_of f k (place c.rec c.index)) ≡ j → unwrap_or j empty_segment ≡ here_of f k c
  unfolding here_of
  here_as j e = ap (λ (x : Option Segment). unwrap_or x empty_segment) (sym e)
