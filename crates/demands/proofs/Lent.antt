-- What an accepted opening leaves in a lent table, and what follows: the marks are right, no segment is refused with 14, the other places stay.
-- One proof, over the length of the list: the table by value is such a list of 256, which `ByValue` says. Assumes nothing.
use Prim.Native.Nat.{ℕ, zero, suc, ◌≤◌, ◌<◌}
use mathlib.Core.Path.{◌≡◌, refl, sym, ap, ◌∙◌, subst}
use mathlib.Core.Bool.{Bool, true, false, cond}
use mathlib.Core.Logic.{inl, inr, ⊎_elim}
use mathlib.Core.List.{List, [], ◌∷◌, ◌++◌, map}
use native.Mathlib.Omega.{arith}
use borrow.Author.Tests.{ltb-false}
use lib.Dec.{eqb}
use lib.ListN.{length, drop, length-append}
use Rattle.bits.proofs.Tests.{by_test_lem}
use Rattle.refusal.specs.Order.{None}
use Rattle.daf.specs.Summaries.{summary_of}
use Rattle.daf.specs.declared.Family.{Family}
use Rattle.daf.specs.declared.Family.TheVariants.{Spk, Pck}
use Rattle.daf.specs.declared.Place.{Place}
use Rattle.daf.specs.declared.Summary.{Summary}
use Rattle.segment.specs.Evaluating.{evaluated}
use Rattle.segment.specs.Malformed.{segment_of, judged}
use Rattle.segment.specs.declared.Segment.{Segment}
use Rattle.std.proofs.Common.{Some, None as Malformed}
use Rattle.segment.proofs.Opened.{SameData, opened_fits}
use Rattle.table.specs.Segments.{seg, with_mark}
use Rattle.table.specs.Places.{limit_of}
use Rattle.table.specs.Marks.{MarkedRight}
use Rattle.table.proofs.Marks.{marks_right, at_any, at_kept}
use Rattle.table.proofs.Limits.{limit_most}
use Rattle.opening.specs.Opening.{places_of, malformed_summary, well_formed, segment_at, segments_of, open_cases}
use Rattle.opening.specs.Lent.{filled_with, marked_list}
use Rattle.opening.proofs.Planning.{length_map}
use Rattle.opening.proofs.Planned.{few, table_length}
use Rattle.opening.proofs.Exact.{found_accepted, table_accepted, table_refused}
use Rattle.spk.specs.Choosing.{Memory}
use Rattle.spk.specs.declared.Answer.{Answer}
use Rattle.spk.specs.Runs.{Asking, fresh, replied, run, serve, of_customer}
use Rattle.spk.proofs.NoMemory as memory
use Rattle.spk.proofs.Fits.{replied_never_14}
use Rattle.spk.specs.Alone.{alone_answer}
use Rattle.spk.proofs.InKernel.{AgreesAt, bytes_replied, bytes_forward, bytes_reversed, bytes_alone}
use Rattle.spk.proofs.OwnBytes.{by_state, turned_way, touched_replied}
use Rattle.spk.specs.declared.Question.{Question}
use Rattle.spk.specs.declared.Way.{Way}
use Rattle.spk.specs.declared.Way.TheVariants.{Forward, Reversed}
use Rattle.spk.specs.Turning.{turned_asked}
use Rattle.pck.proofs.Exactly as pck
use Rattle.demands.specs.Demands.{LentAs, Lending, Unwritten, lent_answers, LentDemand3, all, lent_served, LentInterleaving, LentFits, LentQuestionsFit, LentOrientationsFit, SameDoubles, lent_replied, LentOwnEvaluated, lent_asked, lent_asked_in, BySegment, LentOwnBytes, LentOwnBytesIn, LentOwnAlone, OthersStay, RefusedStays}

-- ---- a table as an opening left it
module _ (f : Family) (k : List ℕ) (before segs : List Segment) (n : ℕ) (left : LentAs f k before segs n) where
  abbrev limit : ℕ
  limit = limit_of (length before)

  none : None (open_cases f limit k)
  none = (found_accepted f limit k n left.0).0

  count : length (places_of k) ≡ n
  count = (found_accepted f limit k n left.0).1

  -- the list, before its marks
  abbrev read : List Segment
  read = filled_with (segments_of f k) before

  list : segs ≡ marked_list f n read
  list = left.1 ∙ table_accepted f limit k before none ∙ ap (λ (m : ℕ). marked_list f m read) count

  pub long : length segs ≡ length before
  long = ap length left.1 ∙ table_length f k before

  room : n ≤ length before
  room = omega (arith, few f limit k none, (limit_most (length before)).0, count)

  pub within : n ≤ limit_of (length segs)
  within = subst (λ (m : ℕ). n ≤ limit_of m) (sym long) (subst (λ (m : ℕ). m ≤ limit) count (few f limit k none))

  -- the list has room for its count
  roomy : n ≤ length read
  roomy =
      let a = length-append (segments_of f k) (drop (length (segments_of f k)) before) in
      let m = length_map (segment_at f k) (places_of k) in
      let c = count in
      omega arith

-- the marks of a lent SPK table are right
pub marked_right : (k : List ℕ) (before segs : List Segment) (n : ℕ) → LentAs Spk k before segs n → MarkedRight segs n
marked_right k before segs n left =
    subst (λ (l : List Segment). MarkedRight l n) (sym (list Spk k before segs n left)) (marks_right (read Spk k before segs n left) n (roomy Spk k before segs n left))

-- ---- demand 3: where nobody writes the table in between, a run over it is a run over one list
module _ (k : List ℕ) (segs : List Segment) (n : ℕ) where
  abbrev at : ℕ
  at = limit_of (length segs)

  abbrev plain : List Lending → List Asking
  plain ls = map (λ (l : Lending). l.1) ls

  one_run : (m : Memory) (ls : List Lending) → Unwritten segs ls → lent_answers k n m ls ≡ run at (evaluated Spk k) segs n m (plain ls)
  unfolding lent_answers run Unwritten
  one_run m [] u = refl
  one_run m (l ∷ ls) u =
      ap (λ (s : List Segment). (replied (limit_of (length s)) (evaluated Spk k) s n m l.1).answer ∷ lent_answers k n (replied (limit_of (length s)) (evaluated Spk k) s n m l.1).memory ls) u.0
      ∙ ap (λ (rs : List Answer). (replied at (evaluated Spk k) segs n m l.1).answer ∷ rs) (one_run (replied at (evaluated Spk k) segs n m l.1).memory ls u.1)

  abbrev plainly : List (ℕ × Lending) → List (ℕ × Asking)
  plainly ts = map (λ (t : ℕ × Lending). (t.0, t.1.1)) ts

  one_serve : (m : Memory) (ts : List (ℕ × Lending)) → Unwritten segs (all ts) → lent_served k n m ts ≡ serve at (evaluated Spk k) segs n m (plainly ts)
  unfolding lent_served serve Unwritten
  one_serve m [] u = refl
  one_serve m (t ∷ ts) u =
      ap (λ (s : List Segment). (t.0, (replied (limit_of (length s)) (evaluated Spk k) s n m t.1.1).answer) ∷ lent_served k n (replied (limit_of (length s)) (evaluated Spk k) s n m t.1.1).memory ts) u.0
      ∙ ap (λ (rs : List (ℕ × Answer)). (t.0, (replied at (evaluated Spk k) segs n m t.1.1).answer) ∷ rs) (one_serve (replied at (evaluated Spk k) segs n m t.1.1).memory ts u.1)

  -- a customer's questions, with the tables left out
  of_plain : (who : ℕ) (ts : List (ℕ × Lending)) → of_customer who (plainly ts) ≡ plain (of_customer who ts)
  unfolding of_customer
  of_plain who [] = refl
  of_plain who (t ∷ ts) = go (eqb t.0 who) (of_plain who ts)
    where
      go : (b : Bool) → of_customer who (plainly ts) ≡ plain (of_customer who ts)
          → cond b (t.1.1 ∷ of_customer who (plainly ts)) (of_customer who (plainly ts)) ≡ plain (cond b (t.1 ∷ of_customer who ts) (of_customer who ts))
      go true e = ap (λ (rs : List Asking). t.1.1 ∷ rs) e
      go false e = e

map_map : {A B C : Type 0} (g : B → C) (h : A → B) (l : List A) → map g (map h l) ≡ map (λ x. g (h x)) l
map_map g h [] = refl
map_map g h (x ∷ l) = ap (λ (r : _). g (h x) ∷ r) (map_map g h l)

pub lent_demand_3 : LentDemand3
lent_demand_3 k before segs n left m asks u =
    one_run k segs n m asks u
    ∙ memory.no_memory segs n (marked_right k before segs n left) (limit_of (length segs)) (evaluated Spk k) m (plain k segs n asks)
    ∙ map_map (fresh (limit_of (length segs)) (evaluated Spk k) segs n) (λ (l : Lending). l.1) asks

pub lent_interleaving : LentInterleaving
lent_interleaving k before segs n left who m m' asks asks' u u' same =
    ap (of_customer who) (one_serve k segs n m asks u)
    ∙ memory.interleaving segs n (marked_right k before segs n left) (limit_of (length segs)) (evaluated Spk k) who m m' (plainly k segs n asks) (plainly k segs n asks')
    (of_plain k segs n who asks ∙ ap (plain k segs n) same ∙ sym (of_plain k segs n who asks'))
    ∙ sym (ap (of_customer who) (one_serve k segs n m' asks' u'))

-- ---- opened_fits
-- segment i of a list of well-formed ones is that of a summary which the tests pass
record Passed (f : Family) (k : List ℕ) (s : Segment) : Type 0 where
  at : Place
  fine : malformed_summary f k (summary_of f k at) ≡ false
  is : s ≡ segment_at f k at

passed : (f : Family) (k : List ℕ) (rest : List Segment) (ps : List Place) (i : ℕ) → i < length ps → length ps ≤ well_formed f k ps
    → Passed f k (seg (map (segment_at f k) ps ++ rest) i)
unfolding well_formed
passed f k rest [] i h w = absurd (omega arith)
passed f k rest (p ∷ ps) zero h w =
    by_test_lem (malformed_summary f k (summary_of f k p))
    (λ t. absurd (none_well (subst (λ (n : ℕ). suc (length ps) ≤ n) (ap (λ (b : Bool). cond b 0 (suc (well_formed f k ps))) t) w)))
    (λ u. record { at = p; fine = u; is = refl })
  where
    none_well : suc (length ps) ≤ 0 → ⊥
    none_well l = omega arith
passed f k rest (p ∷ ps) (suc i) h w =
    by_test_lem (malformed_summary f k (summary_of f k p))
    (λ t. absurd (none_well (subst (λ (n : ℕ). suc (length ps) ≤ n) (ap (λ (b : Bool). cond b 0 (suc (well_formed f k ps))) t) w)))
    (λ u. passed f k rest ps i (omega arith)
    (less (subst (λ (n : ℕ). suc (length ps) ≤ n) (ap (λ (b : Bool). cond b 0 (suc (well_formed f k ps))) u) w)))
  where
    none_well : suc (length ps) ≤ 0 → ⊥
    none_well l = omega arith

    less : suc (length ps) ≤ suc (well_formed f k ps) → length ps ≤ well_formed f k ps
    less l = omega arith

-- a mark changes no data
marked_data : (s : Segment) (m : Bool) (t : Segment) → t ≡ with_mark s m → SameData s t
marked_data s m t e =
    subst (SameData s) (sym e) (record { first = refl; last = refl; type = refl; start = refl; end = refl; kind = refl })

read_data : (f : Family) (n : ℕ) (l : List Segment) (i : ℕ) → SameData (seg l i) (seg (marked_list f n l) i)
read_data Spk n l i = let a = at_any l n n i in marked_data (seg l i) a.0 _ a.1
read_data Pck n l i = record { first = refl; last = refl; type = refl; start = refl; end = refl; kind = refl }

judged_fine : (f : Family) (k : List ℕ) (s : Summary) → malformed_summary f k s ≡ false → judged f k s ≡ Some (segment_of f k s)
unfolding judged
judged_fine f k s e = ap (λ (b : Bool). cond b Malformed (Some (segment_of f k s))) e

pub lent_fits : LentFits
lent_fits f k before segs n left i h et bad =
    let well : length (places_of k) ≤ well_formed f k (places_of k) = ltb-false _ _ (none f k before segs n left).1.1.1.1.1.1.1.1.0 in
    let c = count f k before segs n left in
    let p = passed f k (drop (length (segments_of f k)) before) (places_of k) i (omega arith) well in
    let d : SameData (segment_at f k p.at) (seg segs i) =
    subst (λ (s : Segment). SameData s (seg segs i)) p.is
    (subst (λ (l : List Segment). SameData (seg (read f k before segs n left) i) (seg l i)) (sym (list f k before segs n left)) (read_data f n (read f k before segs n left) i)) in
    opened_fits f k (summary_of f k p.at) (segment_at f k p.at) (seg segs i) (judged_fine f k (summary_of f k p.at) p.fine) d i et bad

pub lent_questions_fit : LentQuestionsFit
lent_questions_fit k before segs n left = replied_never_14 (limit_of (length segs)) (evaluated Spk k) segs n (within Spk k before segs n left) (lent_fits Spk k before segs n left)

pub lent_orientations_fit : LentOrientationsFit
lent_orientations_fit k before segs n left q = pck.never_14 (limit_of (length segs)) k segs n q (within Pck k before segs n left) (lent_fits Pck k before segs n left)

-- ---- the other places
drop_none : (n : ℕ) → drop {A = Segment} n [] ≡ []
drop_none zero = refl
drop_none (suc n) = refl

behind : (vs before : List Segment) (i : ℕ) → length vs ≤ i → seg (filled_with vs before) i ≡ seg before i
behind [] before i h = refl
behind (v ∷ vs) before zero h = absurd (omega arith)
behind (v ∷ vs) [] (suc i) h = ap (λ (l : List Segment). seg (vs ++ l) i) (sym (drop_none (length vs))) ∙ behind vs [] i (omega arith)
behind (v ∷ vs) (b ∷ before) (suc i) h = behind vs before i (omega arith)

unmarked : (f : Family) (n : ℕ) (l : List Segment) (i : ℕ) → n ≤ i → seg (marked_list f n l) i ≡ seg l i
unmarked Spk n l i h = at_kept l n n i h
unmarked Pck n l i h = refl

pub others_stay : OthersStay
others_stay f k before segs n left i h =
    let c = count f k before segs n left in
    let m = length_map (segment_at f k) (places_of k) in
    ap (λ (l : List Segment). seg l i) (list f k before segs n left)
    ∙ unmarked f n (read f k before segs n left) i h
    ∙ behind (segments_of f k) before i (omega arith)

pub refused_stays : RefusedStays
refused_stays f k before r e = table_refused f (limit_of (length before)) k before r e

-- ---- own bytes
pub agrees : (k k' : List ℕ) (segs : List Segment) (i : ℕ) → SameDoubles k k' (seg segs i) → AgreesAt k k' segs i
agrees k k' segs i g = record { here = g.here; there = g.there; same = g.same }

pub lent_own_evaluated : LentOwnEvaluated
lent_own_evaluated k k' segs segs' alike n m a t =
    bytes_replied k k' (limit_of (length segs)) segs n m a
    (touched_replied (limit_of (length segs)) (evaluated Spk k) segs n m (λ i. SameDoubles k k' (seg segs i)) (AgreesAt k k' segs) (agrees k k' segs) a t)
    ∙ ap (λ (l : List Segment). lent_replied k' l n m a) (sym alike)

-- by one segment, over one table
by_one : (k k' : List ℕ) (segs : List Segment) (n : ℕ) (m : Memory) (q : Question) (i : ℕ) → BySegment i (lent_asked k segs n m q) → SameDoubles k k' (seg segs i)
    → lent_asked k segs n m q ≡ lent_asked k' segs n m q
by_one k k' segs n m q i by same =
    ⊎_elim (λ w. bytes_forward k k' (limit_of (length segs)) segs n m q i w (agrees k k' segs i same))
    (λ w. bytes_reversed k k' (limit_of (length segs)) segs n m q i w (agrees k k' segs i same)) by

pub lent_own_bytes : LentOwnBytes
lent_own_bytes k k' segs segs' alike n m q i by same = by_one k k' segs n m q i by same ∙ ap (λ (l : List Segment). lent_asked k' l n m q) (sym alike)

pub lent_own_bytes_in : LentOwnBytesIn
lent_own_bytes_in k k' segs segs' alike n m q wanted rot i by same =
    ap (turned_asked wanted rot) (by_one k k' segs n m q i (⊎_elim (λ w. inl (whole (Forward i) refl w)) (λ w. inr (whole (Reversed i) refl w)) by) same)
    ∙ ap (λ (l : List Segment). lent_asked_in k' l n m q wanted rot) (sym alike)
  where
    whole : (w : Way) → by_state w ≡ true → (lent_asked_in k segs n m q wanted rot).answer.way ≡ w → (lent_asked k segs n m q).answer.way ≡ w
    whole w t h = turned_way wanted rot (lent_asked k segs n m q).answer w t h

pub lent_own_alone : LentOwnAlone
lent_own_alone k k' segs segs' alike n i et same =
    bytes_alone k k' (limit_of (length segs)) segs n i et (agrees k k' segs i same)
    ∙ ap (λ (l : List Segment). alone_answer (limit_of (length l)) (evaluated Spk k') l n i et) (sym alike)
