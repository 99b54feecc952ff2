-- What statements about the word of an answer say: whether a record was stretched. Assumes nothing: these are definitions.
use Rattle.std.specs.Prelude.{ℕ, ◌≡◌, Bool, false, ◌⊎◌, List, Float}
use Rattle.segment.specs.declared.Segment.{Segment}
use Rattle.segment.specs.declared.Valued.{Valued}
use Rattle.std.specs.Prelude.{Ok}
use Rattle.table.specs.Segments.{seg}
use Rattle.chain.specs.Step.{Evaluation}
use Rattle.chain.specs.Walk.{chain_limit, is_zero}
use Rattle.chain.specs.Entered.{Stretches}
use Rattle.spk.specs.declared.Question.{Question}
use Rattle.spk.specs.Questions.{swapped}
use Rattle.spk.specs.Asking.{leg_from}

-- Segment i at et gives a value, and this is its word.
abbrev pub Saying : Evaluation → List Segment → ℕ → Float → Bool → Type 0
Saying ev segs i et b = (v : Valued) × (ev (seg segs i) i et ≡ Ok v) × (b ≡ v.stretched)

-- A segment that enters the sum of the walk from a question's target was stretched. Body 0 takes no step.
abbrev pub WalkStretches : Evaluation → List Segment → ℕ → Question → Type 0
WalkStretches ev segs n q = (is_zero (leg_from q) ≡ false) × Stretches ev segs n (leg_from q) chain_limit

-- So it is with the target's walk, or with the center's.
abbrev pub ChainStretches : Evaluation → List Segment → ℕ → Question → Type 0
ChainStretches ev segs n q = WalkStretches ev segs n q ⊎ WalkStretches ev segs n (swapped q)
