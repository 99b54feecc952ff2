-- When an orientation is refused with 10, 11, 12, 13, 14 or 15: what the statements say. Assumes nothing: these are definitions.
use Rattle.std.specs.Prelude.{ℕ, ◌≤◌, ◌<◌, ◌≡◌, true, false, ◌⊎◌, List, ℤ, Err}
use Rattle.std.specs.Float.Ieee.{is_nan}
use Rattle.refusal.specs.declared.Refusal.{Refusal}
use Rattle.refusal.specs.declared.Refusal.TheVariants.{TableUnfit}
use Rattle.frame.specs.Finite.{Infinite}
use Rattle.daf.specs.declared.Family.TheVariants.{Pck}
use Rattle.segment.specs.declared.Segment.{Segment}
use Rattle.segment.specs.declared.Valued.{Valued}
use Rattle.std.specs.Prelude.{Result, Ok, Err}
use Rattle.segment.specs.Evaluating.{evaluated}
use Rattle.table.specs.Segments.{seg}
use Rattle.pck.specs.declared.Question.{Question}
use Rattle.pck.specs.Orienting.{hits, oriented}

-- Past the first two tests: the count fits, and the epoch is no NaN.
pub record Past (limit n : ℕ) (q : Question) : Type 0 where
  pub fits : n ≤ limit
  pub number : is_nan q.et ≡ false

-- Segment i answers: it is of the body frame and covers the epoch, and no later one does.
pub record Answers (limit : ℕ) (segs : List Segment) (n : ℕ) (q : Question) (i : ℕ) : Type 0 where
  pub past : Past limit n q
  pub below : i < n
  pub covers : hits q (seg segs i) ≡ true
  pub last : (j : ℕ) → i < j → j < n → hits q (seg segs j) ≡ false

module _ (limit : ℕ) (k : List ℕ) (segs : List Segment) (n : ℕ) (q : Question) where
  -- A question is refused so.
  abbrev pub RefusedBy : Refusal → Type 0
  RefusedBy r = (oriented limit k segs n q).outcome ≡ Err r

  -- What segment i is evaluated to.
  abbrev pub value_of : ℕ → Result Valued Refusal
  value_of i = evaluated Pck k (seg segs i) i q.et

  -- 10: the count fits, and the epoch is NaN.
  pub record When10 : Type 0 where
    pub fits : n ≤ limit
    pub nan : is_nan q.et ≡ true

  -- 11 for b: it is the body frame, and no segment is of it and covers the epoch.
  pub record When11 (b : ℤ) : Type 0 where
    pub past : Past limit n q
    pub none : (i : ℕ) → i < n → hits q (seg segs i) ≡ false
    pub body : q.body ≡ b

  -- 12, 13 and the segment's 14: the segment that answers is evaluated to the refusal.
  pub record WhenOwn (r : Refusal) : Type 0 where
    pub number : ℕ
    pub answers : Answers limit segs n q number
    pub given : value_of number ≡ Err r

  -- 14: the count is over the limit, or the segment that answers doesn't fit the kernel.
  abbrev pub When14 : Type 0
  When14 = (limit < n) ⊎ WhenOwn TableUnfit

  -- 15: the segment that answers gives six numbers, and one of them is not finite.
  pub record When15 : Type 0 where
    pub number : ℕ
    pub answers : Answers limit segs n q number
    pub value : Valued
    pub given : value_of number ≡ Ok value
    pub infinite : Infinite value.state
