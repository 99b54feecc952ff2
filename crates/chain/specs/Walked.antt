-- A walk by what a step from a leg gives, whichever step this is. Assumes nothing: these are definitions.
use Rattle.std.specs.Prelude.{ℕ, zero, suc, cond, Result, Ok}
use Rattle.frame.specs.declared.Given.{Given}
use Rattle.refusal.specs.declared.Refusal.{Refusal}
use Rattle.chain.specs.declared.Leg.{Leg}
use Rattle.chain.specs.declared.Step.{Step}
use Rattle.chain.specs.Walk.{chain_limit, no_coverage, advance, follow, is_zero}

-- A walk of at most so many steps, by what a step from a leg gives.
unfoldable pub walk_by : (Leg → Step) → Leg → ℕ → Result Given Refusal
walk_by step leg zero = no_coverage leg.start
walk_by step leg (suc left) = follow (λ on. walk_by step on left) (advance leg (step leg))

-- The state of a leg's body about body 0, by what a step gives.
unfoldable pub to_zero_by : (Leg → Step) → Leg → Result Given Refusal
to_zero_by step leg = cond (is_zero leg) (Ok leg.total) (walk_by step leg chain_limit)
