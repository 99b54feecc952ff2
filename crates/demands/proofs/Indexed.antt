-- The demands with an index: through the index that an opening left a question is answered as without one, so each follows from that of the lent table
-- alone. Assumes nothing.
use Prim.Native.Nat.{ℕ}
use mathlib.Core.Path.{◌≡◌, refl, sym, ap, ap₂, subst, ◌∙◌}
use mathlib.Core.Bool.{Bool, true, false, cond}
use lib.Dec.{eqb}
use mathlib.Core.List.{List, [], ◌∷◌, map}
use lib.ListN.{length}
use Rattle.daf.specs.declared.Family.{Family}
use Rattle.daf.specs.declared.Family.TheVariants.{Spk, Pck}
use Rattle.segment.specs.Evaluating.{evaluated}
use Rattle.segment.specs.declared.Segment.{Segment}
use Rattle.table.specs.Places.{limit_of}
use Rattle.index.specs.Parts.{has_room, RightIndex}
use Rattle.spk.specs.Choosing.{Memory}
use Rattle.spk.specs.declared.Answer.{Answer}
use Rattle.spk.specs.declared.Asked.{Asked}
use Rattle.spk.specs.Runs.{fresh, replied, of_customer}
use Rattle.pck.specs.declared.Oriented.{Oriented}
use Rattle.indexed.specs.Asking.{asked_with, replied_with}
use Rattle.indexed.proofs.Opening.{opened_right}
use Rattle.indexed.proofs.Asking as asking
use Rattle.indexed.proofs.Orienting as orienting
use Rattle.demands.specs.Demands as lent
use Rattle.demands.specs.Indexed.{IndexedAs, Lending, Untouched, indexed_answers, IndexedDemand3, all, indexed_served, IndexedInterleaving, SameAsked, SameOriented, IndexedQuestionsFit, IndexedOrientationsFit, IndexedOwnEvaluated, IndexedOwnBytes}
use Rattle.demands.proofs.Lent.{lent_demand_3, lent_interleaving, lent_questions_fit, lent_orientations_fit, lent_own_evaluated, lent_own_bytes}

-- the index that an opening left is right where it has room
pub right : (f : Family) (k : List ℕ) (before : List Segment) (spare : List ℕ) (segs : List Segment) (ix : List ℕ) (n : ℕ) → IndexedAs f k before spare segs ix n
    → has_room n ix ≡ true → RightIndex segs n ix
right f k before spare segs ix n left room =
    let limit = limit_of (length before) in
    subst (λ (l : List Segment). RightIndex l n ix) (sym left.0.1)
    (subst (RightIndex _ n) (sym left.1) (opened_right f limit k before spare n left.0.0 (sym (ap (has_room n) left.1) ∙ room)))

pub same_asked : SameAsked
same_asked k before spare segs ix n left now m q = asking.no_index (limit_of (length segs)) (evaluated Spk now) segs n ix (right Spk k before spare segs ix n left) m q

pub same_oriented : SameOriented
same_oriented k before spare segs ix n left now q = orienting.no_index (limit_of (length segs)) now segs n q ix (right Pck k before spare segs ix n left)

-- ---- a run: each question as it is lent with the table alone
module _ (k : List ℕ) (before : List Segment) (spare : List ℕ) (segs : List Segment) (ix : List ℕ) (n : ℕ) (left : IndexedAs Spk k before spare segs ix n) where
  abbrev bare : Lending → lent.Lending
  bare l = (l.0, l.1.1)

  -- what a question results in
  one : (l : Lending) → l.0 ≡ segs → l.1.0 ≡ ix → (m : Memory)
      → replied_with (limit_of (length l.0)) (evaluated Spk k) l.0 n l.1.0 m l.1.1 ≡ replied (limit_of (length l.0)) (evaluated Spk k) l.0 n m l.1.1
  one l e f m =
      ap₂ (λ (s : List Segment) (x : List ℕ). replied_with (limit_of (length s)) (evaluated Spk k) s n x m l.1.1) e f
      ∙ asking.replied_same (limit_of (length segs)) (evaluated Spk k) segs n ix (right Spk k before spare segs ix n left) m l.1.1
      ∙ sym (ap (λ (s : List Segment). replied (limit_of (length s)) (evaluated Spk k) s n m l.1.1) e)

  barely : (ls : List Lending) → Untouched segs ix ls → lent.Unwritten segs (map bare ls)
  unfolding Untouched lent.Unwritten
  barely [] u = tt
  barely (l ∷ ls) u = (u.0.0, barely ls u.1)

  answers_same : (m : Memory) (ls : List Lending) → Untouched segs ix ls → indexed_answers k n m ls ≡ lent.lent_answers k n m (map bare ls)
  unfolding indexed_answers lent.lent_answers Untouched
  answers_same m [] u = refl
  answers_same m (l ∷ ls) u =
      let now = replied (limit_of (length l.0)) (evaluated Spk k) l.0 n m l.1.1 in
      ap (λ (a : Asked). a.answer ∷ indexed_answers k n a.memory ls) (one l u.0.0 u.0.1 m)
      ∙ ap (λ (rs : List Answer). now.answer ∷ rs) (answers_same now.memory ls u.1)

  map_bare : (ls : List Lending) → map (λ (l : lent.Lending). fresh (limit_of (length segs)) (evaluated Spk k) segs n l.1) (map bare ls)
      ≡ map (λ (l : Lending). fresh (limit_of (length segs)) (evaluated Spk k) segs n l.1.1) ls
  map_bare [] = refl
  map_bare (l ∷ ls) = ap (λ (rs : List Answer). fresh (limit_of (length segs)) (evaluated Spk k) segs n l.1.1 ∷ rs) (map_bare ls)

  abbrev bares : List (ℕ × Lending) → List (ℕ × lent.Lending)
  bares ts = map (λ (t : ℕ × Lending). (t.0, bare t.1)) ts

  bares_barely : (ts : List (ℕ × Lending)) → Untouched segs ix (all ts) → lent.Unwritten segs (lent.all (bares ts))
  unfolding Untouched lent.Unwritten
  bares_barely [] u = tt
  bares_barely (t ∷ ts) u = (u.0.0, bares_barely ts u.1)

  served_same : (m : Memory) (ts : List (ℕ × Lending)) → Untouched segs ix (all ts) → indexed_served k n m ts ≡ lent.lent_served k n m (bares ts)
  unfolding indexed_served lent.lent_served Untouched
  served_same m [] u = refl
  served_same m (t ∷ ts) u =
      let now = replied (limit_of (length t.1.0)) (evaluated Spk k) t.1.0 n m t.1.1.1 in
      ap (λ (a : Asked). (t.0, a.answer) ∷ indexed_served k n a.memory ts) (one t.1 u.0.0 u.0.1 m)
      ∙ ap (λ (rs : List (ℕ × Answer)). (t.0, now.answer) ∷ rs) (served_same now.memory ts u.1)

-- a customer's questions, with the index left out
of_bare : (who : ℕ) (g : Lending → lent.Lending) (ts : List (ℕ × Lending)) → of_customer who (map (λ (t : ℕ × Lending). (t.0, g t.1)) ts) ≡ map g (of_customer who ts)
unfolding of_customer
of_bare who g [] = refl
of_bare who g (t ∷ ts) = go (eqb t.0 who) (of_bare who g ts)
  where
    go : (b : Bool) → of_customer who (map (λ (t : ℕ × Lending). (t.0, g t.1)) ts) ≡ map g (of_customer who ts)
        → cond b (g t.1 ∷ of_customer who (map (λ (t : ℕ × Lending). (t.0, g t.1)) ts)) (of_customer who (map (λ (t : ℕ × Lending). (t.0, g t.1)) ts))
        ≡ map g (cond b (t.1 ∷ of_customer who ts) (of_customer who ts))
    go true e = ap (λ (rs : List lent.Lending). g t.1 ∷ rs) e
    go false e = e

pub indexed_demand_3 : IndexedDemand3
indexed_demand_3 k before spare segs ix n left m asks u =
    answers_same k before spare segs ix n left m asks u
    ∙ lent_demand_3 k before segs n left.0 m (map (bare k before spare segs ix n left) asks) (barely k before spare segs ix n left asks u)
    ∙ map_bare k before spare segs ix n left asks

pub indexed_interleaving : IndexedInterleaving
indexed_interleaving k before spare segs ix n left who m m' asks asks' u u' same =
    let g = bare k before spare segs ix n left in
    ap (of_customer who) (served_same k before spare segs ix n left m asks u)
    ∙ lent_interleaving k before segs n left.0 who m m' (bares k before spare segs ix n left asks) (bares k before spare segs ix n left asks')
    (bares_barely k before spare segs ix n left asks u) (bares_barely k before spare segs ix n left asks' u') (of_bare who g asks ∙ ap (map g) same ∙ sym (of_bare who g asks'))
    ∙ sym (ap (of_customer who) (served_same k before spare segs ix n left m' asks' u'))

-- ---- opened-fits: as without an index
pub indexed_questions_fit : IndexedQuestionsFit
indexed_questions_fit k before spare segs ix n left m a h =
    lent_questions_fit k before segs n left.0 m a
    (ap (λ (x : Asked). x.answer.way)
    (sym (asking.replied_same (limit_of (length segs)) (evaluated Spk k) segs n ix (right Spk k before spare segs ix n left) m a))
    ∙ h)

pub indexed_orientations_fit : IndexedOrientationsFit
indexed_orientations_fit k before spare segs ix n left q h =
    lent_orientations_fit k before segs n left.0 q (ap (λ (x : Oriented). x.outcome) (sym (same_oriented k before spare segs ix n left k q)) ∙ h)

-- ---- own bytes: as without an index, on whatever kernel
pub indexed_own_evaluated : IndexedOwnEvaluated
indexed_own_evaluated k before spare segs ix n left now now' m a t =
    same now ∙ lent_own_evaluated now now' segs segs refl n m a t ∙ sym (same now')
  where
    same : (on : List ℕ) → replied_with (limit_of (length segs)) (evaluated Spk on) segs n ix m a ≡ replied (limit_of (length segs)) (evaluated Spk on) segs n m a
    same on = asking.replied_same (limit_of (length segs)) (evaluated Spk on) segs n ix (right Spk k before spare segs ix n left) m a

pub indexed_own_bytes : IndexedOwnBytes
indexed_own_bytes k before spare segs ix n left now now' m q i by g =
    same now ∙ lent_own_bytes now now' segs segs refl n m q i (subst (lent.BySegment i) (same now) by) g ∙ sym (same now')
  where
    same : (on : List ℕ) → asked_with (limit_of (length segs)) (evaluated Spk on) segs n ix m q ≡ lent.lent_asked on segs n m q
    same on = same_asked k before spare segs ix n left on m q
