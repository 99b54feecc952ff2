-- The theorems at the evaluation that the contracts name, `evaluated Spk k` of a kernel k: its refusals are 12, 13 and 14, and it depends on the
-- segment's own doubles alone.
--     state_10, state_11, state_own, state_14, state_15    exactly when `state` is refused with 10; 11 for a body; 12 and 13; 14; 15
--     framed_10, .., framed_15, framed_21       the same of `state_in`
--     single_10, single_own, single_14, single_15, single_17    the same of `alone`
--     state_other, framed_other, single_other   no other number is given
--     state_zeros, framed_zeros, single_zeros   with a refusal stand six zeros and no segment
--     bytes_replied                             what a question of any kind results in is the same over every kernel that holds the same
--                                               doubles of the segments that it evaluates: no other supplier's numbers flow into it
--     bytes_forward, bytes_reversed, bytes_alone  the same of an answer that names a segment, by that segment's doubles
-- Assumes nothing.
use Prim.Native.Nat.{ℕ, zero, suc, ◌≤◌}
use mathlib.Core.Path.{◌≡◌, sym, ap, ◌∙◌}
use mathlib.Core.Bool.{true, true≢false}
use mathlib.Core.Logic.{◌⊎◌, ◌↔◌}
use mathlib.Core.List.{List}
use lib.Ieee.{Float}
use lib.IntN.{ℤ, nat_abs}
use Rattle.refusal.specs.declared.Refusal.{Refusal}
use Rattle.refusal.specs.declared.Refusal.TheVariants.{EpochNan, NoCoverage, TableUnfit, NotFinite, NoSegment, OtherFrame}
use Rattle.refusal.specs.Numbers.{number_of}
use Rattle.frame.specs.Frame.{Matrix}
use Rattle.refusal.specs.Order.{First, given}
use Rattle.daf.specs.declared.Family.TheVariants.{Spk}
use Rattle.segment.specs.declared.Segment.{Segment}
use Rattle.std.proofs.Common.{Err}
use Rattle.segment.specs.Evaluating.{cases, evaluated}
use Rattle.segment.proofs.Refusals.{refused_by_lem, never_16}
use Rattle.segment.proofs.OwnBytes.{Agrees, own_bytes}
use Rattle.table.specs.Segments.{seg}
use Rattle.chain.specs.Step.{Evaluation}
use Rattle.chain.specs.When.{is_own, OwnOnly}
use Rattle.chain.proofs.Ends.{clash}
use Rattle.chain.proofs.Own.{Alike}
use Rattle.spk.specs.declared.Question.{Question}
use Rattle.spk.specs.Choosing.{Memory}
use Rattle.spk.specs.declared.Way.TheVariants.{Forward, Reversed}
use Rattle.spk.specs.declared.Asked.{Asked}
use Rattle.std.proofs.Common.{Option}
use Rattle.spk.specs.Answers.{refused_answer}
use Rattle.spk.specs.Turning.{asked_in}
use Rattle.spk.specs.Asking.{asked}
use Rattle.spk.specs.Alone.{alone_answer}
use Rattle.spk.specs.When.{is12or13, answer, RefusedBy, When10, When11, WhenOwn, When14, When15, RefusedInBy, InNumber, When21, When15Turned, AloneNumber, AloneBy, Alone10, Alone17, AloneOwn, Alone14, Alone15}
use Rattle.spk.proofs.Exactly.{exactly_10, exactly_11, exactly_own, exactly_14, exactly_15, no_other, refused_zeros}
use Rattle.spk.proofs.ExactlyIn.{in_carried, in_15, in_21, in_other, in_zeros}
use Rattle.spk.proofs.ExactlyAlone.{alone_10, alone_own, alone_14, alone_15, alone_17, alone_other, alone_zeros}
use Rattle.spk.specs.Runs.{Asking, replied}
use Rattle.spk.specs.Touched.{TouchedReplied}
use Rattle.spk.proofs.OwnBytes.{touched_replied, own_forward, own_reversed, own_alone, own_replied}

-- an evaluation on a kernel gives no other refusals than its own
pub own_only : (k : List ℕ) → OwnOnly (evaluated Spk k)
own_only k s i et r e = let c = refused_by_lem Spk k s i et r e in go c.0 c.1 c.2
  where
    go : (j : ℕ) → First (cases Spk k s i et) j → r ≡ given (cases Spk k s i et) j → is_own r ≡ true
    go zero h q = ap is_own q
    go (suc zero) h q = ap is_own q
    go (suc (suc zero)) h q = ap is_own q
    go (suc (suc (suc zero))) h q = absurd (never_16 Spk k s i et i (e ∙ ap Err q))
    go (suc (suc (suc (suc j)))) h q = absurd h.1.1.1.1

-- what a kernel is asked, with a table: a list of segments, their count and the limit, by value or lent
abbrev asked_of : List ℕ → ℕ → List Segment → ℕ → Memory → Question → Asked
asked_of k limit segs n m q = asked limit (evaluated Spk k) segs n m q

-- ---- exactly when
module _ (k : List ℕ) (limit : ℕ) (segs : List Segment) (n : ℕ) where
  abbrev ev : Evaluation
  ev = evaluated Spk k

  -- `state`
  module _ (m : Memory) (q : Question) where
    pub state_10 : When10 limit ev segs n m q ↔ RefusedBy limit ev segs n m q EpochNan
    state_10 = exactly_10 limit ev segs n m q (own_only k)

    pub state_11 : (b : ℤ) → When11 limit ev segs n m q b ↔ RefusedBy limit ev segs n m q (NoCoverage b)
    state_11 = exactly_11 limit ev segs n m q (own_only k)

    pub state_own : (r : Refusal) → is12or13 r ≡ true → WhenOwn limit ev segs n m q r ↔ RefusedBy limit ev segs n m q r
    state_own = exactly_own limit ev segs n m q

    pub state_14 : When14 limit ev segs n m q ↔ RefusedBy limit ev segs n m q TableUnfit
    state_14 = exactly_14 limit ev segs n m q

    pub state_15 : When15 limit ev segs n m q ↔ RefusedBy limit ev segs n m q NotFinite
    state_15 = exactly_15 limit ev segs n m q (own_only k)

    pub state_other : (r : Refusal) → RefusedBy limit ev segs n m q r → (10 ≤ number_of r) × (number_of r ≤ 15)
    state_other = no_other limit ev segs n m q (own_only k)

    pub state_zeros : (r : Refusal) → RefusedBy limit ev segs n m q r → answer limit ev segs n m q ≡ refused_answer r
    state_zeros = refused_zeros limit ev segs n m q

    -- `state_in`
    module _ (wanted : Option ℤ) (rot : Matrix) where
      abbrev In : Refusal → Type 0
      In r = RefusedInBy limit ev segs n m q wanted rot r

      pub framed_10 : When10 limit ev segs n m q ↔ In EpochNan
      framed_10 = in_carried limit ev segs n m q rot wanted EpochNan (λ e. clash (cc), λ e. clash (cc)) state_10

      pub framed_11 : (b : ℤ) → When11 limit ev segs n m q b ↔ In (NoCoverage b)
      framed_11 b = in_carried limit ev segs n m q rot wanted (NoCoverage b) (λ e. clash (cc), λ e. clash (cc)) (state_11 b)

      pub framed_own : (r : Refusal) → is12or13 r ≡ true → WhenOwn limit ev segs n m q r ↔ In r
      framed_own r t = in_carried limit ev segs n m q rot wanted r (λ e. true≢false (sym t ∙ ap is12or13 (sym e)), λ e. true≢false (sym t ∙ ap is12or13 (sym e))) (state_own r t)

      pub framed_14 : When14 limit ev segs n m q ↔ In TableUnfit
      framed_14 = in_carried limit ev segs n m q rot wanted TableUnfit (λ e. clash (cc), λ e. clash (cc)) state_14

      pub framed_15 : When15 limit ev segs n m q ⊎ When15Turned limit ev segs n m q wanted rot ↔ In NotFinite
      framed_15 = in_15 limit ev segs n m q rot wanted (own_only k)

      pub framed_21 : When21 limit ev segs n m q wanted rot ↔ In OtherFrame
      framed_21 = in_21 limit ev segs n m q rot wanted (own_only k)

      pub framed_other : (r : Refusal) → In r → InNumber (number_of r)
      framed_other = in_other limit ev segs n m q rot wanted (own_only k)

      pub framed_zeros : (r : Refusal) → In r → (asked_in limit ev segs n m q wanted rot).answer ≡ refused_answer r
      framed_zeros = in_zeros limit ev segs n m q rot wanted

  -- `alone`
  module _ (i : ℕ) (et : Float) where
    pub single_10 : Alone10 limit ev segs n i et ↔ AloneBy limit ev segs n i et EpochNan
    single_10 = alone_10 limit ev segs n i et (own_only k)

    pub single_own : (r : Refusal) → is12or13 r ≡ true → AloneOwn limit ev segs n i et r ↔ AloneBy limit ev segs n i et r
    single_own = alone_own limit ev segs n i et

    pub single_14 : Alone14 limit ev segs n i et ↔ AloneBy limit ev segs n i et TableUnfit
    single_14 = alone_14 limit ev segs n i et

    pub single_15 : Alone15 limit ev segs n i et ↔ AloneBy limit ev segs n i et NotFinite
    single_15 = alone_15 limit ev segs n i et (own_only k)

    pub single_17 : Alone17 limit ev segs n i et ↔ AloneBy limit ev segs n i et NoSegment
    single_17 = alone_17 limit ev segs n i et (own_only k)

    pub single_other : (r : Refusal) → AloneBy limit ev segs n i et r → AloneNumber (number_of r)
    single_other = alone_other limit ev segs n i et (own_only k)

    pub single_zeros : (r : Refusal) → AloneBy limit ev segs n i et r → alone_answer limit ev segs n i et ≡ refused_answer r
    single_zeros = alone_zeros limit ev segs n i et

-- ---- own bytes
-- two kernels hold segment i's doubles, and the same ones
abbrev pub AgreesAt : List ℕ → List ℕ → List Segment → ℕ → Type 0
AgreesAt k k' segs i = Agrees k k' (nat_abs (seg segs i).start) (nat_abs (seg segs i).end)

module _ (k k' : List ℕ) (limit : ℕ) (segs : List Segment) (n : ℕ) where
  alike : (i : ℕ) → AgreesAt k k' segs i → Alike (evaluated Spk k) (evaluated Spk k') segs i
  alike i g et = own_bytes Spk k k' (seg segs i) i et g

  -- a question of any kind, answered or refused
  pub bytes_replied : (m : Memory) (a : Asking) → TouchedReplied limit (evaluated Spk k) segs n m a (AgreesAt k k' segs)
      → replied limit (evaluated Spk k) segs n m a ≡ replied limit (evaluated Spk k') segs n m a
  bytes_replied m a t =
      own_replied limit (evaluated Spk k) (evaluated Spk k') segs n m a
      (touched_replied limit (evaluated Spk k) segs n m (AgreesAt k k' segs) (Alike (evaluated Spk k) (evaluated Spk k') segs) alike a t)

  module _ (m : Memory) (q : Question) where
    pub bytes_forward : (i : ℕ) → (asked_of k limit segs n m q).answer.way ≡ Forward i → AgreesAt k k' segs i → asked_of k limit segs n m q ≡ asked_of k' limit segs n m q
    bytes_forward i w g = own_forward _ _ _ _ _ _ _ i w (alike i g)

    pub bytes_reversed : (i : ℕ) → (asked_of k limit segs n m q).answer.way ≡ Reversed i → AgreesAt k k' segs i → asked_of k limit segs n m q ≡ asked_of k' limit segs n m q
    bytes_reversed i w g = own_reversed _ _ _ _ _ _ _ i w (alike i g)

  pub bytes_alone : (i : ℕ) (et : Float) → AgreesAt k k' segs i
      → alone_answer limit (evaluated Spk k) segs n i et ≡ alone_answer limit (evaluated Spk k') segs n i et
  bytes_alone i et g = own_alone limit _ _ segs n i et (λ e. alike i g)
