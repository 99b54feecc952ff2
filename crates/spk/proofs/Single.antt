-- Laws of a segment evaluated alone and of a turned answer, one for each way through the code. Assumes nothing.
use mathlib.Core.Path.{◌≡◌, sym, ap, ap₂, ◌∙◌}
use lib.IntN.{ℤ}
use mathlib.Core.Bool.{Bool, true, false, cond}
use mathlib.Core.List.{[], ◌∷◌}
use Prim.Native.Nat.{ℕ, ◌≤◌, ◌<◌}
use lib.Dec.{leb}
use lib.Ieee.{Float, is_nan}
use borrow.Author.Tests.{lt-ltb, le-ltb, le-leb, lt-leb}
use Rattle.frame.specs.Frame.{Matrix, transpose_of}
use Rattle.frame.specs.declared.Turn.{Turn}
use Rattle.frame.specs.declared.Turn.TheVariants.{Stands, Forth, Back, Never}
use Rattle.frame.specs.Framed.{turn_of}
use Rattle.frame.specs.Given.{turned_given}
use Rattle.refusal.specs.declared.Refusal.{Refusal}
use Rattle.refusal.specs.declared.Refusal.TheVariants.{TableUnfit, EpochNan, NoSegment, OtherFrame}
use Rattle.refusal.specs.Order.{case, first_of}
use Rattle.segment.specs.declared.Segment.{Segment}
use Rattle.std.proofs.Common.{Result, Ok, Err}
use Rattle.table.specs.Steps.{ready}
use Rattle.table.proofs.Early.{unless, first_ready}
use Rattle.chain.specs.Step.{Evaluation, yield_of}
use Rattle.spk.specs.declared.Way.TheVariants.{Forward}
use Rattle.spk.specs.declared.Answer.{Answer}
use Rattle.spk.specs.Answers.{refused_answer, settled}
use Rattle.spk.specs.Turning.{frame_of, is_refused, turned_by, turned_to}
use Rattle.spk.specs.Alone.{alone_with}

module _ (limit : ℕ) (ev : Evaluation) (n i : ℕ) (et : Float) (s : Segment) where
  -- what the three tests give
  tests : Bool → Bool → Bool → Answer
  tests a b d =
      first_of (case a TableUnfit ∷ case b EpochNan ∷ case d NoSegment ∷ []) refused_answer
      (settled (Forward i) (yield_of s (ev s i et)))

  pub alone_unfit : limit < n → alone_with limit ev n i et s ≡ refused_answer TableUnfit
  unfolding alone_with tests
  alone_unfit l = ap (λ (a : Bool). tests a (is_nan et) (leb n i)) (lt-ltb limit n l)

  pub alone_nan : n ≤ limit → is_nan et ≡ true → alone_with limit ev n i et s ≡ refused_answer EpochNan
  unfolding alone_with tests
  alone_nan l d = ap₂ (λ (a b : Bool). tests a b (leb n i)) (le-ltb limit n l) d

  pub alone_none : n ≤ limit → is_nan et ≡ false → n ≤ i → alone_with limit ev n i et s ≡ refused_answer NoSegment
  unfolding alone_with tests
  alone_none l d h = ap₂ (λ (a b : Bool). tests a b (leb n i)) (le-ltb limit n l) d ∙ ap (tests false false) (le-leb n i h)

  pub alone_some : n ≤ limit → is_nan et ≡ false → i < n → alone_with limit ev n i et s ≡ settled (Forward i) (yield_of s (ev s i et))
  unfolding alone_with tests
  alone_some l d h = ap₂ (λ (a b : Bool). tests a b (leb n i)) (le-ltb limit n l) d ∙ ap (tests false false) (lt-leb n i h)

  -- the same by what the tests before any segment give; then its number
  later : Bool → Answer
  later d = first_of (case d NoSegment ∷ []) refused_answer (settled (Forward i) (yield_of s (ev s i et)))

  by_ready : (r : Result (Unit {0}) Refusal) → ready limit n et ≡ r → unless r refused_answer (later (leb n i)) ≡ alone_with limit ev n i et s
  unfolding alone_with later
  by_ready r e =
      sym (ap (λ (x : Result (Unit {0}) Refusal). unless x refused_answer (later (leb n i))) e)
      ∙ first_ready limit n et (case (leb n i) NoSegment ∷ []) refused_answer (settled (Forward i) (yield_of s (ev s i et)))

  pub unready : (r : Refusal) → ready limit n et ≡ Err r → refused_answer r ≡ alone_with limit ev n i et s
  unready r e = by_ready (Err r) e

  pub ready_none : (t : Unit {0}) → ready limit n et ≡ Ok t → n ≤ i → refused_answer NoSegment ≡ alone_with limit ev n i et s
  unfolding later
  ready_none t e h = sym (ap later (le-leb n i h)) ∙ by_ready (Ok t) e

  pub ready_some : (t : Unit {0}) → ready limit n et ≡ Ok t → i < n → settled (Forward i) (yield_of s (ev s i et)) ≡ alone_with limit ev n i et s
  unfolding later
  ready_some t e h = sym (ap later (lt-leb n i h)) ∙ by_ready (Ok t) e

-- a refusal stays, and any other answer is turned
pub turned_by_lem : (to : ℤ) (rot : Matrix) (a : Answer) (b : Bool) → is_refused a.way ≡ b → turned_to to rot a ≡ cond b a (turned_by (turn_of (frame_of a) to) to rot a)
unfolding turned_to
turned_by_lem to rot a b e = ap (λ (x : Bool). cond x a (turned_by (turn_of (frame_of a) to) to rot a)) e

-- the four ways of a turn
module _ (to : ℤ) (rot : Matrix) (a : Answer) (t : Turn) where
  pub by_stands : t ≡ Stands → turned_by t to rot a ≡ a
  unfolding turned_by
  by_stands e = ap (λ (x : Turn). turned_by x to rot a) e

  pub by_forth : t ≡ Forth → turned_by t to rot a ≡ settled a.way (Ok (turned_given rot to a.given))
  unfolding turned_by
  by_forth e = ap (λ (x : Turn). turned_by x to rot a) e

  pub by_back : t ≡ Back → turned_by t to rot a ≡ settled a.way (Ok (turned_given (transpose_of rot) to a.given))
  unfolding turned_by
  by_back e = ap (λ (x : Turn). turned_by x to rot a) e

  pub by_never : t ≡ Never → turned_by t to rot a ≡ refused_answer OtherFrame
  unfolding turned_by
  by_never e = ap (λ (x : Turn). turned_by x to rot a) e
