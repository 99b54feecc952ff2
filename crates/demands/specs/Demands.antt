-- What is proved beyond the contracts, as a ledger keeper reads it. The contracts say what each function returns: `opened` is what an opening
-- returns, `replied` what a question with a memory returns, `evaluated` what a segment results in on a kernel.
use Rattle.std.specs.Prelude.{ℕ, ◌<◌, ◌≤◌, ◌≡◌, ◌⊎◌, List, [], ◌∷◌, map, nat_abs, length, Float, Ok, Err}
use Rattle.refusal.specs.declared.Refusal.{Refusal}
use Rattle.refusal.specs.declared.Refusal.TheVariants.{TableUnfit}
use Rattle.daf.specs.Addresses.{double_of_address, whole_doubles}
use Rattle.frame.specs.Frame.{Matrix}
use Rattle.daf.specs.declared.Family.{Family}
use Rattle.daf.specs.declared.Family.TheVariants.{Spk, Pck}
use Rattle.segment.specs.Evaluating.{evaluated}
use Rattle.std.specs.Prelude.{Err}
use Rattle.table.specs.Segments.{seg}
use Rattle.segment.specs.declared.Segment.{Segment}
use Rattle.table.specs.Places.{table_limit, limit_of}
use Rattle.table.specs.declared.Table.{Table}
use Rattle.opening.specs.Opening.{accepted_opening, opened}
use Rattle.opening.specs.Lent.{found, table_after}
use Rattle.spk.specs.Choosing.{Memory}
use Rattle.spk.specs.declared.Answer.{Answer}
use Rattle.spk.specs.declared.Asked.{Asked}
use Rattle.spk.specs.declared.Way.TheVariants as way
use Rattle.std.specs.Prelude.{ℤ, Option}
use Rattle.spk.specs.Asking.{asked}
use Rattle.spk.specs.Alone.{alone_answer}
use Rattle.spk.specs.Turning.{asked_in}
use Rattle.spk.specs.Touched.{TouchedReplied}
use Rattle.spk.specs.declared.Question as spk
use Rattle.pck.specs.declared.Question as pck
use Rattle.pck.specs.When as pck-when
use Rattle.spk.specs.Runs.{Asking, fresh, replied, run, serve, of_customer}

-- A table as the opening of this kernel returned it.
abbrev pub OpenedAs : Family → List ℕ → Table → Type 0
OpenedAs f k t = opened f k ≡ accepted_opening t

-- The answers of a run on that kernel, with the memory going from each question to the next ..
abbrev pub answers : List ℕ → Table → Memory → List Asking → List Answer
answers k t m asks = run table_limit (evaluated Spk k) t.segments t.count m asks

-- .. and the answer of the definition with no memory.
abbrev pub fresh_answer : List ℕ → Table → Asking → Answer
fresh_answer k t a = fresh table_limit (evaluated Spk k) t.segments t.count a

-- **Demand 3, no_memory.** After an accepted opening, any sequence of questions of every kind, in whatever frame or in none, from any memory, gets one
-- by one the answer, with the frame of its numbers, and the segment that the definition with no memory gives.
abbrev pub Demand3 : Type 0
Demand3 = (k : List ℕ) (t : Table) → OpenedAs Spk k t → (m : Memory) (asks : List Asking) → answers k t m asks ≡ map (fresh_answer k t) asks

-- A run for many customers, each named by a number: who asked, and what was answered.
abbrev pub served : List ℕ → Table → Memory → List (ℕ × Asking) → List (ℕ × Answer)
served k t m asks = serve table_limit (evaluated Spk k) t.segments t.count m asks

-- **Interleaving.** One customer's answers are the same whatever the others ask and in whatever order.
abbrev pub Interleaving : Type 0
Interleaving =
    (k : List ℕ) (t : Table) → OpenedAs Spk k t → (who : ℕ) (m m' : Memory) (asks asks' : List (ℕ × Asking))
    → of_customer who asks ≡ of_customer who asks' → of_customer who (served k t m asks) ≡ of_customer who (served k t m' asks')

-- **opened-fits.** With the kernel unchanged, no segment of an opened table is refused with 14, at any epoch.
abbrev pub OpenedFits : Type 0
OpenedFits =
    (f : Family) (k : List ℕ) (t : Table) → OpenedAs f k t → (i : ℕ) → i < t.count → (et : Float) → evaluated f k (seg t.segments i) i et ≡ Err TableUnfit → ⊥

-- .. so no question to an opened SPK is, of every kind, whatever the memory holds ..
abbrev pub QuestionsFit : Type 0
QuestionsFit =
    (k : List ℕ) (t : Table) → OpenedAs Spk k t → (m : Memory) (a : Asking)
    → (replied table_limit (evaluated Spk k) t.segments t.count m a).answer.way ≡ way.Refused TableUnfit → ⊥

-- .. and none to an opened PCK.
abbrev pub OrientationsFit : Type 0
OrientationsFit =
    (k : List ℕ) (t : Table) → OpenedAs Pck k t → (q : pck.Question) → pck-when.RefusedBy table_limit k t.segments t.count q TableUnfit → ⊥

-- ---- the same of a lent table

-- A lent table as an accepted opening of this kernel left it: it held `before`, n segments were found, and it holds `segs`.
abbrev pub LentAs : Family → List ℕ → List Segment → List Segment → ℕ → Type 0
LentAs f k before segs n = (found f (limit_of (length before)) k ≡ Ok n) × (segs ≡ table_after f (limit_of (length before)) k before)

-- A question, and the table as it is lent to it.
abbrev pub Lending : Type 0
Lending = List Segment × Asking

-- Nobody else writes the table in between: each question finds it as the opening left it.
unfoldable pub Unwritten : List Segment → List Lending → Type 0
Unwritten segs [] = Unit {0}
Unwritten segs (l ∷ ls) = (l.0 ≡ segs) × Unwritten segs ls

-- The answers of a run over a lent table, each from the table that is lent to it, with the memory going from each question to the next.
unfoldable pub lent_answers : List ℕ → ℕ → Memory → List Lending → List Answer
lent_answers k n m [] = []
lent_answers k n m (l ∷ ls) =
    let now = replied (limit_of (length l.0)) (evaluated Spk k) l.0 n m l.1 in
    now.answer ∷ lent_answers k n now.memory ls

-- **Demand 3, no-memory**, of a lent table that nobody else writes in between.
abbrev pub LentDemand3 : Type 0
LentDemand3 =
    (k : List ℕ) (before segs : List Segment) (n : ℕ) → LentAs Spk k before segs n → (m : Memory) (asks : List Lending) → Unwritten segs asks
    → lent_answers k n m asks ≡ map (λ (l : Lending). fresh (limit_of (length segs)) (evaluated Spk k) segs n l.1) asks

-- The same for many customers.
abbrev pub all : List (ℕ × Lending) → List Lending
all asks = map (λ (t : ℕ × Lending). t.1) asks

unfoldable pub lent_served : List ℕ → ℕ → Memory → List (ℕ × Lending) → List (ℕ × Answer)
lent_served k n m [] = []
lent_served k n m (t ∷ ts) =
    let now = replied (limit_of (length t.1.0)) (evaluated Spk k) t.1.0 n m t.1.1 in
    (t.0, now.answer) ∷ lent_served k n now.memory ts

-- **Interleaving**, of a lent table that nobody else writes in between.
abbrev pub LentInterleaving : Type 0
LentInterleaving =
    (k : List ℕ) (before segs : List Segment) (n : ℕ) → LentAs Spk k before segs n → (who : ℕ) (m m' : Memory) (asks asks' : List (ℕ × Lending))
    → Unwritten segs (all asks) → Unwritten segs (all asks') → of_customer who asks ≡ of_customer who asks'
    → of_customer who (lent_served k n m asks) ≡ of_customer who (lent_served k n m' asks')

-- **opened-fits**, of a lent table that nobody else has written since.
abbrev pub LentFits : Type 0
LentFits =
    (f : Family) (k : List ℕ) (before segs : List Segment) (n : ℕ) → LentAs f k before segs n → (i : ℕ) → i < n → (et : Float) → evaluated f k (seg segs i) i et ≡ Err TableUnfit → ⊥

abbrev pub LentQuestionsFit : Type 0
LentQuestionsFit =
    (k : List ℕ) (before segs : List Segment) (n : ℕ) → LentAs Spk k before segs n → (m : Memory) (a : Asking)
    → (replied (limit_of (length segs)) (evaluated Spk k) segs n m a).answer.way ≡ way.Refused TableUnfit → ⊥

abbrev pub LentOrientationsFit : Type 0
LentOrientationsFit =
    (k : List ℕ) (before segs : List Segment) (n : ℕ) → LentAs Pck k before segs n → (q : pck.Question) → pck-when.RefusedBy (limit_of (length segs)) k segs n q TableUnfit → ⊥

-- **Own bytes**, of a lent table. Two kernels, of whatever lengths, hold a segment's doubles, and the same ones.
pub record SameDoubles (k k' : List ℕ) (s : Segment) : Type 0 where
  pub here : nat_abs s.end ≤ whole_doubles k
  pub there : nat_abs s.end ≤ whole_doubles k'
  pub same : (j : ℕ) → nat_abs s.start ≤ j → j ≤ nat_abs s.end → double_of_address k j ≡ double_of_address k' j

abbrev pub lent_replied : List ℕ → List Segment → ℕ → Memory → Asking → Asked
lent_replied k segs n m a = replied (limit_of (length segs)) (evaluated Spk k) segs n m a

-- What a question of any kind results in, answered or refused, is the same over every other kernel with the same doubles of the segments that it
-- evaluates, and of no others: no other supplier's numbers flow into it. Nobody else writes the table in between: both questions find it alike, with
-- the frames that it names. So an answer and the frame of its numbers depend on the table and those doubles, and on nothing else.
abbrev pub LentOwnEvaluated : Type 0
LentOwnEvaluated =
    (k k' : List ℕ) (segs segs' : List Segment) → segs' ≡ segs → (n : ℕ) (m : Memory) (a : Asking)
    → TouchedReplied (limit_of (length segs)) (evaluated Spk k) segs n m a (λ i. SameDoubles k k' (seg segs i)) → lent_replied k segs n m a ≡ lent_replied k' segs' n m a

abbrev pub lent_asked : List ℕ → List Segment → ℕ → Memory → spk.Question → Asked
lent_asked k segs n m q = asked (limit_of (length segs)) (evaluated Spk k) segs n m q

abbrev pub lent_asked_in : List ℕ → List Segment → ℕ → Memory → spk.Question → Option ℤ → Matrix → Asked
lent_asked_in k segs n m q wanted rot = asked_in (limit_of (length segs)) (evaluated Spk k) segs n m q wanted rot

-- An answer is by segment i, forward or reversed.
abbrev pub BySegment : ℕ → Asked → Type 0
BySegment i a = (a.answer.way ≡ way.Forward i) ⊎ (a.answer.way ≡ way.Reversed i)

-- So an answer by one segment is the same over every other kernel with that segment's doubles ..
abbrev pub LentOwnBytes : Type 0
LentOwnBytes =
    (k k' : List ℕ) (segs segs' : List Segment) → segs' ≡ segs → (n : ℕ) (m : Memory) (q : spk.Question) (i : ℕ)
    → BySegment i (lent_asked k segs n m q) → SameDoubles k k' (seg segs i) → lent_asked k segs n m q ≡ lent_asked k' segs' n m q

-- .. in a frame too ..
abbrev pub LentOwnBytesIn : Type 0
LentOwnBytesIn =
    (k k' : List ℕ) (segs segs' : List Segment) → segs' ≡ segs → (n : ℕ) (m : Memory) (q : spk.Question) (wanted : Option ℤ) (rot : Matrix) (i : ℕ)
    → BySegment i (lent_asked_in k segs n m q wanted rot) → SameDoubles k k' (seg segs i)
    → lent_asked_in k segs n m q wanted rot ≡ lent_asked_in k' segs' n m q wanted rot

-- .. and so is the segment asked alone.
abbrev pub LentOwnAlone : Type 0
LentOwnAlone =
    (k k' : List ℕ) (segs segs' : List Segment) → segs' ≡ segs → (n i : ℕ) (et : Float) → SameDoubles k k' (seg segs i)
    → alone_answer (limit_of (length segs)) (evaluated Spk k) segs n i et ≡ alone_answer (limit_of (length segs')) (evaluated Spk k') segs' n i et

-- **Places past the count.** An accepted opening leaves every place from the count on as it was ..
abbrev pub OthersStay : Type 0
OthersStay =
    (f : Family) (k : List ℕ) (before segs : List Segment) (n : ℕ) → LentAs f k before segs n → (i : ℕ) → n ≤ i → seg segs i ≡ seg before i

-- .. and a refused one the whole table.
abbrev pub RefusedStays : Type 0
RefusedStays =
    (f : Family) (k : List ℕ) (before : List Segment) (r : Refusal)
    → found f (limit_of (length before)) k ≡ Err r → table_after f (limit_of (length before)) k before ≡ before
