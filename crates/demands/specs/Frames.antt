-- What is proved of the frame of an answer, as a ledger keeper reads it. What is said of a table alone asks for no opening: it is a list of segments that
-- anybody may have written. `lent_asked` is what `lent::state` returns, `lent_asked_in` what `lent::state_in` does.
use Rattle.std.specs.Prelude.{ℕ, ◌≡◌, true, false, ◌↔◌, List, ℤ, Float, length}
use Rattle.refusal.specs.declared.Refusal.TheVariants.{OtherFrame}
use Rattle.frame.specs.declared.Framed.{Framed}
use Rattle.frame.specs.declared.Framed.TheVariants.{Nothing, One}
use Rattle.frame.specs.Frame.{Matrix}
use Rattle.frame.specs.Framed.{j2000, joined}
use Rattle.daf.specs.declared.Family.TheVariants.{Spk}
use Rattle.segment.specs.Evaluating.{evaluated}
use Rattle.segment.specs.declared.Segment.{Segment}
use Rattle.table.specs.Segments.{seg}
use Rattle.table.specs.Places.{limit_of}
use Rattle.spk.specs.Choosing.{Memory}
use Rattle.spk.specs.declared.Question.{Question}
use Rattle.spk.specs.declared.Asked.{Asked}
use Rattle.spk.specs.declared.Way.TheVariants as way
use Rattle.std.specs.Prelude.{Option, Some, None}
use Rattle.spk.specs.Questions.{is_same, swapped}
use Rattle.spk.specs.Alone.{alone_answer}
use Rattle.spk.specs.Turning.{frame_of, is_refused}
use Rattle.spk.specs.When.{Arrives, When21}
use Rattle.spk.specs.Before.{bare_answer, bare_asked, old_asked, old_alone}
use Rattle.indexed.specs.Asking.{asked_with, asked_in_with}
use Rattle.demands.specs.Demands.{lent_asked, lent_asked_in, BySegment}
use Rattle.demands.specs.Indexed.{IndexedAs}

-- The frame that the numbers of an answer are in.
abbrev pub frame_in : Asked → Framed
frame_in a = frame_of a.answer

-- **The frame of an answer** is that of the segments whose numbers it has. By one segment, forward or reversed, it is that segment's ..
abbrev pub LentSegmentFrame : Type 0
LentSegmentFrame =
    (k : List ℕ) (segs : List Segment) (n : ℕ) (m : Memory) (q : Question) (i : ℕ)
    → BySegment i (lent_asked k segs n m q) → frame_in (lent_asked k segs n m q) ≡ One (seg segs i).frame

-- .. by the chain it is that of both walks, the target's and the center's: one frame, or several ..
abbrev pub LentChainFrame : Type 0
LentChainFrame =
    (k : List ℕ) (segs : List Segment) (n : ℕ) (m : Memory) (q : Question) → (lent_asked k segs n m q).answer.way ≡ way.Chained
    → (a : Arrives (evaluated Spk k) segs n q) × (b : Arrives (evaluated Spk k) segs n (swapped q))
    × (frame_in (lent_asked k segs n m q) ≡ joined a.0.frame b.0.frame)

-- .. same-body zeros are in frame 1 ..
abbrev pub LentSameFrame : Type 0
LentSameFrame =
    (k : List ℕ) (segs : List Segment) (n : ℕ) (m : Memory) (q : Question) → is_same q ≡ true → frame_in (lent_asked k segs n m q) ≡ One j2000

-- .. and no answer but a refusal is in no frame.
abbrev pub LentSomeFrame : Type 0
LentSomeFrame =
    (k : List ℕ) (segs : List Segment) (n : ℕ) (m : Memory) (q : Question)
    → is_refused (lent_asked k segs n m q).answer.way ≡ false → frame_in (lent_asked k segs n m q) ≡ Nothing → ⊥

-- **As it stands.** Asked in the frame of its own numbers, whichever that is, an answer is the one without a frame, bit for bit, whatever the matrix.
abbrev pub LentStands : Type 0
LentStands =
    (k : List ℕ) (segs : List Segment) (n : ℕ) (m : Memory) (q : Question) (rot : Matrix) (f : ℤ)
    → frame_in (lent_asked k segs n m q) ≡ One f → lent_asked_in k segs n m q (Some f) rot ≡ lent_asked k segs n m q

-- **21**, exactly when: a frame is wanted and the question itself is answered, but its numbers are in several frames, or in one that is neither the
-- frame that is wanted, nor 1 with 17 wanted, nor 17 with 1.
abbrev pub LentOtherFrame : Type 0
LentOtherFrame =
    (k : List ℕ) (segs : List Segment) (n : ℕ) (m : Memory) (q : Question) (wanted : Option ℤ) (rot : Matrix)
    → When21 (limit_of (length segs)) (evaluated Spk k) segs n m q wanted rot ↔ ((lent_asked_in k segs n m q wanted rot).answer.way ≡ way.Refused OtherFrame)

-- Two segments alike in what a choice reads: the pair, the epochs and the mark.
pub record ChosenAlike (s s' : Segment) : Type 0 where
  pub target : s.target ≡ s'.target
  pub center : s.center ≡ s'.center
  pub first : s.first ≡ s'.first
  pub last : s.last ≡ s'.last
  pub marked : s.marked ≡ s'.marked

-- **Own frame.** In whatever frame it is asked, an answer by one segment is the same from every other table, as long, that has this segment at its
-- place and elsewhere segments of the same pairs, epochs and marks: no other segment's frame flows into it.
abbrev pub LentOwnFrame : Type 0
LentOwnFrame =
    (k : List ℕ) (segs segs' : List Segment) → length segs ≡ length segs' → ((j : ℕ) → ChosenAlike (seg segs j) (seg segs' j))
    → (n : ℕ) (m : Memory) (q : Question) (wanted : Option ℤ) (rot : Matrix) (i : ℕ)
    → BySegment i (lent_asked_in k segs n m q wanted rot) → seg segs i ≡ seg segs' i → lent_asked_in k segs n m q wanted rot ≡ lent_asked_in k segs' n m q wanted rot

-- **Through an index** that an opening left, on any kernel that is lent now, a question in a frame is answered as without the index ..
abbrev pub SameAskedIn : Type 0
SameAskedIn =
    (k : List ℕ) (before : List Segment) (spare : List ℕ) (segs : List Segment) (ix : List ℕ) (n : ℕ) → IndexedAs Spk k before spare segs ix n
    → (now : List ℕ) (m : Memory) (q : Question) (wanted : Option ℤ) (rot : Matrix)
    → asked_in_with (limit_of (length segs)) (evaluated Spk now) segs n ix m q wanted rot ≡ lent_asked_in now segs n m q wanted rot

-- .. so it is 21 exactly when it is 21 without.
abbrev pub IndexedOtherFrame : Type 0
IndexedOtherFrame =
    (k : List ℕ) (before : List Segment) (spare : List ℕ) (segs : List Segment) (ix : List ℕ) (n : ℕ) → IndexedAs Spk k before spare segs ix n
    → (now : List ℕ) (m : Memory) (q : Question) (wanted : Option ℤ) (rot : Matrix)
    → When21 (limit_of (length segs)) (evaluated Spk now) segs n m q wanted rot
    ↔ ((asked_in_with (limit_of (length segs)) (evaluated Spk now) segs n ix m q wanted rot).answer.way ≡ way.Refused OtherFrame)
