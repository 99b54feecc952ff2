-- Laws of the order of a question, one for each way through `state`. Assumes nothing.
use mathlib.Core.Path.{◌≡◌, ap, ap₂, ◌∙◌}
use mathlib.Core.Bool.{Bool, true, false, cond}
use mathlib.Core.List.{List, [], ◌∷◌}
use Prim.Native.Nat.{ℕ, ◌≤◌, ◌<◌}
use lib.Dec.{ltb}
use lib.Ieee.{is_nan}
use borrow.Author.Tests.{lt-ltb, le-ltb}
use Rattle.refusal.specs.declared.Refusal.TheVariants.{TableUnfit, EpochNan}
use Rattle.refusal.specs.Order.{case, first_of}
use Rattle.segment.specs.declared.Segment.{Segment}
use Rattle.std.proofs.Common.{Option}
use Rattle.chain.specs.Step.{Evaluation}
use Rattle.spk.specs.declared.Question.{Question}
use Rattle.spk.specs.declared.Asked.{Asked}
use Rattle.spk.specs.Questions.{is_same}
use Rattle.spk.specs.Choosing.{Memory, remembered}
use Rattle.spk.specs.Answers.{refused_answer, same_answer}
use Rattle.spk.specs.Asking.{found_by, answer_to, asked_by}

module _ (limit : ℕ) (ev : Evaluation) (segs : List Segment) (n : ℕ) (m : Memory) (q : Question) (c : Option ℕ) where
  -- what the three tests give
  tests : Bool → Bool → Bool → Asked
  tests a b d =
      cond a (record { answer = same_answer; memory = m })
      (first_of (case b TableUnfit ∷ case d EpochNan ∷ []) (λ r. record { answer = refused_answer r; memory = m })
      (record { answer = answer_to (found_by ev segs n q c); memory = remembered segs m c }))

  -- target equals center
  pub asked_same : is_same q ≡ true → asked_by limit ev segs n m q c ≡ record { answer = same_answer; memory = m }
  unfolding asked_by tests
  asked_same e = ap (λ (a : Bool). tests a (ltb limit n) (is_nan q.et)) e

  -- a count over the limit
  pub asked_unfit : is_same q ≡ false → limit < n → asked_by limit ev segs n m q c ≡ record { answer = refused_answer TableUnfit; memory = m }
  unfolding asked_by tests
  asked_unfit e l = ap₂ (λ (a b : Bool). tests a b (is_nan q.et)) e (lt-ltb limit n l)

  -- an epoch that is NaN
  pub asked_nan : is_same q ≡ false → n ≤ limit → is_nan q.et ≡ true → asked_by limit ev segs n m q c ≡ record { answer = refused_answer EpochNan; memory = m }
  unfolding asked_by tests
  asked_nan e l d = ap₂ (λ (a b : Bool). tests a b (is_nan q.et)) e (le-ltb limit n l) ∙ ap (tests false false) d

  -- the choice
  pub asked_choice : is_same q ≡ false → n ≤ limit → is_nan q.et ≡ false
      → asked_by limit ev segs n m q c ≡ record { answer = answer_to (found_by ev segs n q c); memory = remembered segs m c }
  unfolding asked_by tests
  asked_choice e l d = ap₂ (λ (a b : Bool). tests a b (is_nan q.et)) e (le-ltb limit n l) ∙ ap (tests false false) d
