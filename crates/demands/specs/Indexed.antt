-- What is proved of a lent table with its index, as a ledger keeper reads it: the demands of `Demands`, with no memory and no index. The contracts say
-- what each function returns: `replied_with` is what a question with a memory and an index returns, `oriented_with` what an orientation does.
use Rattle.std.specs.Prelude.{ℕ, ◌≡◌, List, [], ◌∷◌, map, length, Err}
use Rattle.refusal.specs.declared.Refusal.TheVariants.{TableUnfit}
use Rattle.daf.specs.declared.Family.{Family}
use Rattle.daf.specs.declared.Family.TheVariants.{Spk, Pck}
use Rattle.segment.specs.Evaluating.{evaluated}
use Rattle.segment.specs.declared.Segment.{Segment}
use Rattle.table.specs.Segments.{seg}
use Rattle.table.specs.Places.{limit_of}
use Rattle.spk.specs.Choosing.{Memory}
use Rattle.spk.specs.declared.Question as spk
use Rattle.spk.specs.declared.Answer.{Answer}
use Rattle.spk.specs.declared.Way.TheVariants as way
use Rattle.spk.specs.Asking.{asked}
use Rattle.spk.specs.Runs.{Asking, fresh, of_customer}
use Rattle.spk.specs.Touched.{TouchedReplied}
use Rattle.pck.specs.declared.Question as pck
use Rattle.pck.specs.Orienting.{oriented}
use Rattle.indexed.specs.Opening.{index_after}
use Rattle.indexed.specs.Asking.{asked_with, replied_with}
use Rattle.indexed.specs.Orienting.{oriented_with}
use Rattle.demands.specs.Demands.{LentAs, SameDoubles, BySegment}

-- A lent table and its index as an accepted opening of this kernel left them: they held `before` and `spare`, n segments were found, and they hold
-- `segs` and `ix`. The index may have room for the segments or not.
abbrev pub IndexedAs : Family → List ℕ → List Segment → List ℕ → List Segment → List ℕ → ℕ → Type 0
IndexedAs f k before spare segs ix n = LentAs f k before segs n × (ix ≡ index_after f (limit_of (length before)) k before spare)

-- A question, with the table and the index as they are lent to it.
abbrev pub Lending : Type 0
Lending = List Segment × (List ℕ × Asking)

-- Nobody else writes the table or the index in between: each question finds them as the opening left them.
unfoldable pub Untouched : List Segment → List ℕ → List Lending → Type 0
Untouched segs ix [] = Unit {0}
Untouched segs ix (l ∷ ls) = ((l.0 ≡ segs) × (l.1.0 ≡ ix)) × Untouched segs ix ls

-- The answers of a run, each from the table and the index that are lent to it, with the memory going from each question to the next.
unfoldable pub indexed_answers : List ℕ → ℕ → Memory → List Lending → List Answer
indexed_answers k n m [] = []
indexed_answers k n m (l ∷ ls) =
    let now = replied_with (limit_of (length l.0)) (evaluated Spk k) l.0 n l.1.0 m l.1.1 in
    now.answer ∷ indexed_answers k n now.memory ls

-- **Demand 3, no memory and no index.** After an accepted opening, any sequence of questions of every kind, from any memory, through the index that the
-- opening left, gets one by one the answer and the segment that the definition with no memory and no index gives, where nobody else writes in between.
abbrev pub IndexedDemand3 : Type 0
IndexedDemand3 =
    (k : List ℕ) (before : List Segment) (spare : List ℕ) (segs : List Segment) (ix : List ℕ) (n : ℕ) → IndexedAs Spk k before spare segs ix n
    → (m : Memory) (asks : List Lending) → Untouched segs ix asks
    → indexed_answers k n m asks ≡ map (λ (l : Lending). fresh (limit_of (length segs)) (evaluated Spk k) segs n l.1.1) asks

-- The same for many customers, each named by a number.
abbrev pub all : List (ℕ × Lending) → List Lending
all asks = map (λ (t : ℕ × Lending). t.1) asks

unfoldable pub indexed_served : List ℕ → ℕ → Memory → List (ℕ × Lending) → List (ℕ × Answer)
indexed_served k n m [] = []
indexed_served k n m (t ∷ ts) =
    let now = replied_with (limit_of (length t.1.0)) (evaluated Spk k) t.1.0 n t.1.1.0 m t.1.1.1 in
    (t.0, now.answer) ∷ indexed_served k n now.memory ts

-- **Interleaving.** One customer's answers are the same whatever the others ask and in whatever order, where nobody else writes in between.
abbrev pub IndexedInterleaving : Type 0
IndexedInterleaving =
    (k : List ℕ) (before : List Segment) (spare : List ℕ) (segs : List Segment) (ix : List ℕ) (n : ℕ) → IndexedAs Spk k before spare segs ix n
    → (who : ℕ) (m m' : Memory) (asks asks' : List (ℕ × Lending)) → Untouched segs ix (all asks) → Untouched segs ix (all asks')
    → of_customer who asks ≡ of_customer who asks' → of_customer who (indexed_served k n m asks) ≡ of_customer who (indexed_served k n m' asks')

-- **One question.** Through the index that the opening left, on any kernel that is lent now, from any memory, a question has the answer, the way, the
-- segment and the memory that it has without an index ..
abbrev pub SameAsked : Type 0
SameAsked =
    (k : List ℕ) (before : List Segment) (spare : List ℕ) (segs : List Segment) (ix : List ℕ) (n : ℕ) → IndexedAs Spk k before spare segs ix n
    → (now : List ℕ) (m : Memory) (q : spk.Question)
    → asked_with (limit_of (length segs)) (evaluated Spk now) segs n ix m q ≡ asked (limit_of (length segs)) (evaluated Spk now) segs n m q

-- .. and an orientation is that without one.
abbrev pub SameOriented : Type 0
SameOriented =
    (k : List ℕ) (before : List Segment) (spare : List ℕ) (segs : List Segment) (ix : List ℕ) (n : ℕ) → IndexedAs Pck k before spare segs ix n
    → (now : List ℕ) (q : pck.Question) → oriented_with (limit_of (length segs)) now segs n ix q ≡ oriented (limit_of (length segs)) now segs n q

-- **opened-fits.** With the kernel unchanged, no question of any kind through the index that the opening left is refused with 14 ..
abbrev pub IndexedQuestionsFit : Type 0
IndexedQuestionsFit =
    (k : List ℕ) (before : List Segment) (spare : List ℕ) (segs : List Segment) (ix : List ℕ) (n : ℕ) → IndexedAs Spk k before spare segs ix n
    → (m : Memory) (a : Asking) → (replied_with (limit_of (length segs)) (evaluated Spk k) segs n ix m a).answer.way ≡ way.Refused TableUnfit → ⊥

-- .. and no orientation.
abbrev pub IndexedOrientationsFit : Type 0
IndexedOrientationsFit =
    (k : List ℕ) (before : List Segment) (spare : List ℕ) (segs : List Segment) (ix : List ℕ) (n : ℕ) → IndexedAs Pck k before spare segs ix n
    → (q : pck.Question) → (oriented_with (limit_of (length segs)) k segs n ix q).outcome ≡ Err TableUnfit → ⊥

-- **Own bytes.** What a question of any kind results in through the index that the opening left, answered or refused, is the same over every other
-- kernel with the same doubles of the segments that it evaluates, and of no others ..
abbrev pub IndexedOwnEvaluated : Type 0
IndexedOwnEvaluated =
    (k : List ℕ) (before : List Segment) (spare : List ℕ) (segs : List Segment) (ix : List ℕ) (n : ℕ) → IndexedAs Spk k before spare segs ix n
    → (now now' : List ℕ) (m : Memory) (a : Asking)
    → TouchedReplied (limit_of (length segs)) (evaluated Spk now) segs n m a (λ i. SameDoubles now now' (seg segs i))
    → replied_with (limit_of (length segs)) (evaluated Spk now) segs n ix m a ≡ replied_with (limit_of (length segs)) (evaluated Spk now') segs n ix m a

-- .. so an answer by one segment is the same over every other kernel with that segment's doubles.
abbrev pub IndexedOwnBytes : Type 0
IndexedOwnBytes =
    (k : List ℕ) (before : List Segment) (spare : List ℕ) (segs : List Segment) (ix : List ℕ) (n : ℕ) → IndexedAs Spk k before spare segs ix n
    → (now now' : List ℕ) (m : Memory) (q : spk.Question) (i : ℕ)
    → BySegment i (asked_with (limit_of (length segs)) (evaluated Spk now) segs n ix m q) → SameDoubles now now' (seg segs i)
    → asked_with (limit_of (length segs)) (evaluated Spk now) segs n ix m q ≡ asked_with (limit_of (length segs)) (evaluated Spk now') segs n ix m q
