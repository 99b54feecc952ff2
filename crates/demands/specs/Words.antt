-- What is proved of the word of an answer, whether a record was stretched, as a ledger keeper reads it. A table is a list of segments that anybody may have
-- written. `lent_asked` is what `lent::state` returns, `lent_asked_in` what `lent::state_in` does, `lent_alone` what `lent::alone` does; `lent_oriented` and
-- `lent_alone_oriented` are those of a PCK. The definitions from before an answer had the word have names that begin with `old`, and `bare_asked`,
-- `bare_answer`, `bare_oriented` leave the word out. Demand 3, own_bytes, two-answers, interleaving and "no index" are statements about whole answers, so
-- they hold of the word too.
use Rattle.std.specs.Prelude.{ℕ, ◌≡◌, Bool, true, false, ◌↔◌, List, [], ◌∷◌, ◌++◌, nat_abs, Float, length, Ok, Err}
use Rattle.refusal.specs.declared.Refusal.{Refusal}
use Rattle.frame.specs.Frame.{Matrix}
use Rattle.daf.specs.declared.Family.TheVariants.{Spk}
use Rattle.segment.specs.declared.Segment.{Segment}
use Rattle.segment.specs.Evaluating.{stretched_at, evaluated}
use Rattle.segment.specs.Before.{old_evaluated}
use Rattle.std.specs.Prelude.{ℤ, Option, Some}
use Rattle.table.specs.Segments.{seg}
use Rattle.table.specs.Places.{limit_of}
use Rattle.spk.specs.Choosing.{Memory}
use Rattle.spk.specs.declared.Question.{Question}
use Rattle.spk.specs.declared.Answer.{Answer}
use Rattle.spk.specs.declared.Asked.{Asked}
use Rattle.spk.specs.declared.Way.TheVariants as way
use Rattle.spk.specs.Questions.{is_same}
use Rattle.spk.specs.Answers.{stretched_of}
use Rattle.spk.specs.Answering.{lent_alone}
use Rattle.spk.specs.Turning.{is_refused}
use Rattle.spk.specs.Words.{ChainStretches}
use Rattle.spk.specs.Before.{bare_answer, bare_asked, old_asked, old_asked_in, old_alone}
use Rattle.pck.specs.declared.Question as body
use Rattle.pck.specs.Orienting.{chosen}
use Rattle.pck.specs.Answering.{lent_oriented, lent_alone_oriented}
use Rattle.pck.specs.Before as pck
use Rattle.indexed.specs.Asking.{asked_in_with}
use Rattle.lines.specs.Text.{newline, yes_text, state_text}
use Rattle.ask_text.specs.Lines.{answer_text}
use Rattle.orient_text.specs.Lines.{oriented_text}
use Rattle.pck.specs.declared.Oriented.{Oriented}
use Rattle.demands.specs.Demands.{lent_asked, lent_asked_in, BySegment}
use Rattle.demands.specs.Indexed.{IndexedAs}

-- The word of an answer.
abbrev pub word_in : Asked → Bool
word_in a = stretched_of a.answer

-- A segment's at an epoch, on a kernel: the epoch is not inside the segment's records, or not inside its stored epochs.
abbrev pub word_at : List ℕ → Segment → Float → Bool
word_at k s et = stretched_at k (nat_abs s.start) s.kind et

-- **Exactly when.** An answer by one segment, forward or reversed, says what that segment says ..
abbrev pub LentSegmentWord : Type 0
LentSegmentWord =
    (k : List ℕ) (segs : List Segment) (n : ℕ) (m : Memory) (q : Question) (i : ℕ)
    → BySegment i (lent_asked k segs n m q) → word_in (lent_asked k segs n m q) ≡ word_at k (seg segs i) q.et

-- .. a chained one says yes exactly when a segment that entered one of the two sums was stretched ..
abbrev pub LentChainWord : Type 0
LentChainWord =
    (k : List ℕ) (segs : List Segment) (n : ℕ) (m : Memory) (q : Question) → (lent_asked k segs n m q).answer.way ≡ way.Chained
    → ChainStretches (evaluated Spk k) segs n q ↔ (word_in (lent_asked k segs n m q) ≡ true)

-- .. same-body zeros and refusals say no ..
abbrev pub LentSameWord : Type 0
LentSameWord = (k : List ℕ) (segs : List Segment) (n : ℕ) (m : Memory) (q : Question) → is_same q ≡ true → word_in (lent_asked k segs n m q) ≡ false

abbrev pub LentRefusedWord : Type 0
LentRefusedWord =
    (k : List ℕ) (segs : List Segment) (n : ℕ) (m : Memory) (q : Question) (r : Refusal)
    → (lent_asked k segs n m q).answer.way ≡ way.Refused r → word_in (lent_asked k segs n m q) ≡ false

-- .. in a frame an answer says what it says without, and a refusal no ..
abbrev pub LentWordIn : Type 0
LentWordIn =
    (k : List ℕ) (segs : List Segment) (n : ℕ) (m : Memory) (q : Question) (wanted : Option ℤ) (rot : Matrix)
    → is_refused (lent_asked_in k segs n m q wanted rot).answer.way ≡ false → word_in (lent_asked_in k segs n m q wanted rot) ≡ word_in (lent_asked k segs n m q)

abbrev pub LentRefusedWordIn : Type 0
LentRefusedWordIn =
    (k : List ℕ) (segs : List Segment) (n : ℕ) (m : Memory) (q : Question) (wanted : Option ℤ) (rot : Matrix) (r : Refusal)
    → (lent_asked_in k segs n m q wanted rot).answer.way ≡ way.Refused r → word_in (lent_asked_in k segs n m q wanted rot) ≡ false

-- .. and a segment alone says what it says in an answer, and a refusal no.
abbrev pub LentAloneWord : Type 0
LentAloneWord =
    (k : List ℕ) (segs : List Segment) (n i : ℕ) (et : Float)
    → is_refused (lent_alone k segs n i et).way ≡ false → stretched_of (lent_alone k segs n i et) ≡ word_at k (seg segs i) et

abbrev pub LentRefusedAloneWord : Type 0
LentRefusedAloneWord =
    (k : List ℕ) (segs : List Segment) (n i : ℕ) (et : Float) (r : Refusal)
    → (lent_alone k segs n i et).way ≡ way.Refused r → stretched_of (lent_alone k segs n i et) ≡ false

-- An orientation says what the segment that is chosen says, one of a segment alone what that says, and a refusal no.
abbrev pub PckWord : Type 0
PckWord =
    (k : List ℕ) (segs : List Segment) (n : ℕ) (q : body.Question) → (lent_oriented k segs n q).outcome ≡ Ok tt
    → (i : ℕ) × (chosen segs n q ≡ Some i) × ((lent_oriented k segs n q).stretched ≡ word_at k (seg segs i) q.et)

abbrev pub PckRefusedWord : Type 0
PckRefusedWord =
    (k : List ℕ) (segs : List Segment) (n : ℕ) (q : body.Question) (r : Refusal)
    → (lent_oriented k segs n q).outcome ≡ Err r → (lent_oriented k segs n q).stretched ≡ false

abbrev pub PckAloneWord : Type 0
PckAloneWord =
    (k : List ℕ) (segs : List Segment) (n i : ℕ) (et : Float) → (lent_alone_oriented k segs n i et).outcome ≡ Ok tt
    → (lent_alone_oriented k segs n i et).stretched ≡ word_at k (seg segs i) et

abbrev pub PckRefusedAloneWord : Type 0
PckRefusedAloneWord =
    (k : List ℕ) (segs : List Segment) (n i : ℕ) (et : Float) (r : Refusal)
    → (lent_alone_oriented k segs n i et).outcome ≡ Err r → (lent_alone_oriented k segs n i et).stretched ≡ false

-- **In the line** of an answer that is no refusal the word stands right before the six numbers, `ask`'s and `orient`'s.
abbrev pub AskLineWord : Type 0
AskLineWord =
    (i : ℕ) (a : Answer) → is_refused a.way ≡ false
    → (before : List ℕ) × (answer_text i a ≡ before ++ (yes_text (stretched_of a) ++ (state_text a.given.state ++ (newline ∷ []))))

abbrev pub OrientLineWord : Type 0
OrientLineWord =
    (i : ℕ) (a : Oriented) → a.outcome ≡ Ok tt
    → (before : List ℕ) × (oriented_text i a ≡ before ++ (yes_text a.stretched ++ (state_text a.angles ++ (newline ∷ []))))

-- **As before.** Way, state, frame and memory of a question, in whatever frame it is asked, are those of the definitions from before ..
abbrev pub LentAsBefore : Type 0
LentAsBefore =
    (k : List ℕ) (segs : List Segment) (n : ℕ) (m : Memory) (q : Question)
    → bare_asked (lent_asked k segs n m q) ≡ old_asked (limit_of (length segs)) (old_evaluated Spk k) segs n m q

abbrev pub LentAsBeforeIn : Type 0
LentAsBeforeIn =
    (k : List ℕ) (segs : List Segment) (n : ℕ) (m : Memory) (q : Question) (wanted : Option ℤ) (rot : Matrix)
    → bare_asked (lent_asked_in k segs n m q wanted rot) ≡ old_asked_in (limit_of (length segs)) (old_evaluated Spk k) segs n m q wanted rot

-- .. so are those of a segment alone ..
abbrev pub LentAloneAsBefore : Type 0
LentAloneAsBefore =
    (k : List ℕ) (segs : List Segment) (n i : ℕ) (et : Float)
    → bare_answer (lent_alone k segs n i et) ≡ old_alone (limit_of (length segs)) (old_evaluated Spk k) segs n i et

-- .. and outcome, reference frame and angles of an orientation and of a segment alone of a PCK ..
abbrev pub PckAsBefore : Type 0
PckAsBefore =
    (k : List ℕ) (segs : List Segment) (n : ℕ) (q : body.Question)
    → pck.bare_oriented (lent_oriented k segs n q) ≡ pck.old_oriented (limit_of (length segs)) k segs n q

abbrev pub PckAloneAsBefore : Type 0
PckAloneAsBefore =
    (k : List ℕ) (segs : List Segment) (n i : ℕ) (et : Float)
    → pck.bare_oriented (lent_alone_oriented k segs n i et) ≡ pck.old_alone (limit_of (length segs)) k segs n i et

-- .. and those of a question through an index that an opening left.
abbrev pub IndexedAsBefore : Type 0
IndexedAsBefore =
    (k : List ℕ) (before : List Segment) (spare : List ℕ) (segs : List Segment) (ix : List ℕ) (n : ℕ) → IndexedAs Spk k before spare segs ix n
    → (now : List ℕ) (m : Memory) (q : Question) (wanted : Option ℤ) (rot : Matrix)
    → bare_asked (asked_in_with (limit_of (length segs)) (evaluated Spk now) segs n ix m q wanted rot)
    ≡ old_asked_in (limit_of (length segs)) (old_evaluated Spk now) segs n m q wanted rot
