-- When a question is refused with 10, 11, 12, 13, 14 or 15, in a frame with these or 21, and a segment alone with these or 17: what the statements say. Assumes nothing: these are
-- definitions.
use Rattle.std.specs.Prelude.{ℕ, ◌≤◌, ◌<◌, ◌≡◌, Bool, true, false, ◌||◌, ◌⊎◌, List, eqb, Float, ℤ}
use Rattle.std.specs.Float.Ieee.{is_nan}
use Rattle.frame.specs.declared.Given.{Given}
use Rattle.frame.specs.declared.Turn.{Turn}
use Rattle.frame.specs.declared.Turn.TheVariants.{Stands, Forth, Back, Never}
use Rattle.frame.specs.Given.{negated_given, minus_given}
use Rattle.frame.specs.Finite.{Infinite}
use Rattle.frame.specs.Frame.{Matrix, turned_state, transpose_of}
use Rattle.frame.specs.Framed.{turn_of}
use Rattle.refusal.specs.declared.Refusal.{Refusal}
use Rattle.refusal.specs.declared.Refusal.TheVariants.{TableUnfit}
use Rattle.refusal.specs.Numbers.{number_of}
use Rattle.segment.specs.declared.Segment.{Segment}
use Rattle.segment.specs.declared.Valued.{Valued}
use Rattle.std.specs.Prelude.{Option, Some, None, Ok, Err}
use Rattle.table.specs.Segments.{seg}
use Rattle.chain.specs.declared.Leg.{Leg}
use Rattle.chain.specs.Step.{Evaluation, given_by}
use Rattle.chain.specs.Walk.{chain_limit, is_zero, to_zero}
use Rattle.chain.specs.When.{Stuck, Failed}
use Rattle.spk.specs.declared.Question.{Question}
use Rattle.spk.specs.declared.Answer.{Answer}
use Rattle.spk.specs.declared.Way.TheVariants.{Refused}
use Rattle.spk.specs.Questions.{is_same, swapped}
use Rattle.spk.specs.Choosing.{Memory, last_reversed, forward_in}
use Rattle.spk.specs.Asking.{leg_from, evaluated_at, asked}
use Rattle.spk.specs.Turning.{frame_of, is_refused, asked_in}
use Rattle.spk.specs.Alone.{alone_answer}

-- The number is 12 or 13.
abbrev pub is12or13 : Refusal → Bool
is12or13 r = eqb (number_of r) 12 || eqb (number_of r) 13

-- ---- the chain
module _ (ev : Evaluation) (segs : List Segment) (n : ℕ) where
  -- The walk from a question's target to body 0 ends with a state. Body 0 takes no step.
  abbrev pub Arrives : Question → Type 0
  Arrives q = (x : Given) × (to_zero ev segs n (leg_from q) ≡ Ok x)

  -- So it is with the walk from a question's target, which is not body 0.
  abbrev pub OfWalk : (Leg → Type 0) → Question → Type 0
  OfWalk P q = (is_zero (leg_from q) ≡ false) × P (leg_from q)

  -- So it is with the target's walk; or that ends with a state, and so it is with the center's.
  abbrev pub InChain : (Leg → Type 0) → Question → Type 0
  InChain P q = OfWalk P q ⊎ (Arrives q × OfWalk P (swapped q))

-- Past the first three tests: target is not center, the count fits, the epoch is no NaN.
pub record Open (limit n : ℕ) (q : Question) : Type 0 where
  pub other : is_same q ≡ false
  pub fits : n ≤ limit
  pub number : is_nan q.et ≡ false

-- The numbers of the refusals of a state in a frame: 10 to 15, and 21.
abbrev pub InNumber : ℕ → Type 0
InNumber k = ((10 ≤ k) × (k ≤ 15)) ⊎ (k ≡ 21)

-- The matrix that turns a state: the caller's forth, its transpose back.
abbrev pub turns_by : Turn → Matrix → Matrix → Type 0
turns_by Stands rot by = ⊥
turns_by Forth rot by = rot ≡ by
turns_by Back rot by = transpose_of rot ≡ by
turns_by Never rot by = ⊥

-- ---- a state
module _ (limit : ℕ) (ev : Evaluation) (segs : List Segment) (n : ℕ) (m : Memory) (q : Question) where
  -- The answer, and that it is this refusal.
  abbrev pub answer : Answer
  answer = (asked limit ev segs n m q).answer

  abbrev pub RefusedBy : Refusal → Type 0
  RefusedBy r = answer.way ≡ Refused r

  -- No segment forward and none reversed: the chain is asked.
  pub record Chaining : Type 0 where
    pub forward : forward_in segs n m q ≡ None
    pub reversed : last_reversed segs n q ≡ None

  -- Segment i is evaluated for the question, and is refused with r: it is the forward choice; or there is none, and it is the reversed one; or
  -- there is neither, and it ends a walk of the chain.
  pub data Refuses (i : ℕ) (r : Refusal) : Type 0 where
    forward : forward_in segs n m q ≡ Some i → evaluated_at ev segs q i ≡ Err r → Refuses i r
    reversed : forward_in segs n m q ≡ None → last_reversed segs n q ≡ Some i → evaluated_at ev segs q i ≡ Err r → Refuses i r
    chained : Chaining → InChain ev segs n (λ leg. Failed ev segs n leg chain_limit i r) q → Refuses i r

  -- The question ends with a state before 15, in the frame of the segments that gave it: the forward choice's; or, with all six negated, the reversed one's; or the target's less the center's.
  pub data Gives (g : Given) : Type 0 where
    by_forward : (i : ℕ) (x : Valued) → forward_in segs n m q ≡ Some i → evaluated_at ev segs q i ≡ Ok x → given_by (seg segs i) x ≡ g → Gives g
    by_reversed : (i : ℕ) (x : Valued) → forward_in segs n m q ≡ None → last_reversed segs n q ≡ Some i → evaluated_at ev segs q i ≡ Ok x → negated_given (given_by (seg segs i) x) ≡ g → Gives g
    by_chain : Chaining → (a : Arrives ev segs n q) (b : Arrives ev segs n (swapped q)) → minus_given a.0 b.0 ≡ g → Gives g

  -- 10: the epoch is NaN, and no earlier test decides.
  pub record When10 : Type 0 where
    pub other : is_same q ≡ false
    pub fits : n ≤ limit
    pub nan : is_nan q.et ≡ true

  -- 11 for body b: the chain is asked, and a walk of at most 32 steps is stuck at b.
  pub record When11 (b : ℤ) : Type 0 where
    pub past : Open limit n q
    pub chaining : Chaining
    pub stuck : InChain ev segs n (λ leg. Stuck ev segs n leg chain_limit b) q

  -- 12, 13 and a segment's 14: a segment that is evaluated is refused so.
  pub record WhenOwn (r : Refusal) : Type 0 where
    pub past : Open limit n q
    pub number : ℕ
    pub refuses : Refuses number r

  -- 14: the count is over the limit, or a segment that is evaluated doesn't fit the kernel.
  pub record When14 : Type 0 where
    pub other : is_same q ≡ false
    pub either : (limit < n) ⊎ WhenOwn TableUnfit

  -- 15: there is a state, and a number of the six is not finite.
  pub record When15 : Type 0 where
    pub past : Open limit n q
    pub given : Given
    pub gives : Gives given
    pub infinite : Infinite given.state

  -- ---- a state in a frame
  module _ (wanted : Option ℤ) (rot : Matrix) where
    abbrev pub RefusedInBy : Refusal → Type 0
    RefusedInBy r = (asked_in limit ev segs n m q wanted rot).answer.way ≡ Refused r

    -- The question itself is answered, and a frame is wanted.
    pub record Framing : Type 0 where
      pub to : ℤ
      pub frame : wanted ≡ Some to
      pub answered : is_refused answer.way ≡ false

    -- 21: the numbers are in several frames, or in one that is neither the frame that is wanted, nor 1 with 17 wanted, nor 17 with 1.
    pub record When21 : Type 0 where
      pub framing : Framing
      pub never : turn_of (frame_of answer) framing.to ≡ Never

    -- 15 of the turned state: a matrix turns the numbers, and one of the turned state's is not finite.
    pub record When15Turned : Type 0 where
      pub framing : Framing
      pub by : Matrix
      pub turns : turns_by (turn_of (frame_of answer) framing.to) rot by
      pub infinite : Infinite (turned_state by answer.given.state)

-- ---- a segment alone
-- The numbers of its refusals: 10, 12 to 15, and 17.
abbrev pub AloneNumber : ℕ → Type 0
AloneNumber k = (k ≡ 10) ⊎ ((12 ≤ k) × (k ≤ 15)) ⊎ (k ≡ 17)

module _ (limit : ℕ) (ev : Evaluation) (segs : List Segment) (n i : ℕ) (et : Float) where
  abbrev pub AloneBy : Refusal → Type 0
  AloneBy r = (alone_answer limit ev segs n i et).way ≡ Refused r

  -- Past the first two tests, and past the third: there is a segment of that number.
  pub record OpenAlone : Type 0 where
    pub fits : n ≤ limit
    pub number : is_nan et ≡ false

  pub record Evaluates : Type 0 where
    pub past : OpenAlone
    pub below : i < n

  -- 10: the count fits, and the epoch is NaN.
  pub record Alone10 : Type 0 where
    pub fits : n ≤ limit
    pub nan : is_nan et ≡ true

  -- 17: there is no segment of that number.
  pub record Alone17 : Type 0 where
    pub past : OpenAlone
    pub none : n ≤ i

  -- 12, 13 and the segment's 14: it is evaluated to the refusal.
  pub record AloneOwn (r : Refusal) : Type 0 where
    pub past : Evaluates
    pub given : ev (seg segs i) i et ≡ Err r

  -- 14: the count is over the limit, or the segment doesn't fit the kernel.
  abbrev pub Alone14 : Type 0
  Alone14 = (limit < n) ⊎ AloneOwn TableUnfit

  -- 15: it is evaluated to a state, and a number of the six is not finite.
  pub record Alone15 : Type 0 where
    pub past : Evaluates
    pub value : Valued
    pub given : ev (seg segs i) i et ≡ Ok value
    pub infinite : Infinite value.state
