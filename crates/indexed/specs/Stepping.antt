-- A step of a chain through an ascending index, whatever this holds. Assumes nothing: these are definitions.
use Rattle.std.specs.Prelude.{ℕ, List}
use Rattle.segment.specs.declared.Segment.{Segment}
use Rattle.index.specs.Visiting.{head_of, up}
use Rattle.chain.specs.declared.Leg.{Leg}
use Rattle.chain.specs.declared.Step.{Step}
use Rattle.chain.specs.declared.Step.TheVariants.{Blocked}
use Rattle.chain.specs.Step.{Evaluation}
use Rattle.chain.specs.Visited.{step_over}

-- The step from a leg's body over the segments that a walk up the index visits.
unfoldable pub step_by : Evaluation → List Segment → ℕ → List ℕ → List ℕ → Leg → Step
step_by ev segs n first above leg = step_over ev segs leg Blocked (up above 0 n (head_of first leg.body))
