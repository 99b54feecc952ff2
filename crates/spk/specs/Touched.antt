-- The segments that a question evaluates: what "its own bytes" means of an answer. Assumes nothing: these are definitions.
use Rattle.std.specs.Prelude.{ℕ, ◌≡◌, false, List, Option, Some, None}
use Rattle.segment.specs.declared.Segment.{Segment}
use Rattle.chain.specs.Step.{Evaluation}
use Rattle.chain.specs.Walk.{chain_limit, is_zero}
use Rattle.chain.specs.Touched.{TouchedOn}
use Rattle.spk.specs.declared.Question.{Question}
use Rattle.spk.specs.Questions.{swapped}
use Rattle.spk.specs.Choosing.{Memory, last_reversed, forward_in}
use Rattle.spk.specs.Asking.{leg_from}
use Rattle.spk.specs.When.{Arrives, Open, Evaluates}
use Rattle.spk.specs.Runs.{Asking, Plain, InFrame, Single}

module _ (ev : Evaluation) (segs : List Segment) (n : ℕ) (P : ℕ → Type 0) (q : Question) where
  -- P holds of the number of each segment that the chain evaluates: those of the target's walk and, where that ends with a state, those of the
  -- center's. Body 0 takes no step.
  pub record TouchedChain : Type 0 where
    pub target : is_zero (leg_from q) ≡ false → TouchedOn ev segs n P (leg_from q) chain_limit
    pub center : Arrives ev segs n q → is_zero (leg_from (swapped q)) ≡ false → TouchedOn ev segs n P (leg_from (swapped q)) chain_limit

  -- It holds of the reversed choice's; where there is none, of the chain's.
  abbrev pub touched_back : Option ℕ → Type 0
  touched_back (Some i) = P i
  touched_back None = TouchedChain

  -- It holds of the forward choice's; where there is none, of those backward.
  abbrev pub touched_by : Option ℕ → Type 0
  touched_by (Some i) = P i
  touched_by None = touched_back (last_reversed segs n q)

-- P holds of the number of each segment that a question evaluates: none where a test before the choice decides.
abbrev pub Touched : ℕ → Evaluation → List Segment → ℕ → Memory → Question → (ℕ → Type 0) → Type 0
Touched limit ev segs n m q P = Open limit n q → touched_by ev segs n P q (forward_in segs n m q)

-- The same of a question of any kind. A frame evaluates nothing more; a segment alone is evaluated past its three tests.
abbrev pub TouchedReplied : ℕ → Evaluation → List Segment → ℕ → Memory → Asking → (ℕ → Type 0) → Type 0
TouchedReplied limit ev segs n m (Plain q) P = Touched limit ev segs n m q P
TouchedReplied limit ev segs n m (InFrame q wanted rot) P = Touched limit ev segs n m q P
TouchedReplied limit ev segs n m (Single i et) P = Evaluates limit ev segs n i et → P i
