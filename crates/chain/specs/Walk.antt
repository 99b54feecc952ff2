-- The walk towards body 0, by recursion on the steps left. Assumes nothing: these are definitions.
use Rattle.std.specs.Prelude.{ℕ, zero, suc, Bool, cond, List, ℤ, pos, Result, Ok, Err}
use Rattle.bits.specs.Same.{same_z}
use Rattle.frame.specs.Given.{plus_given}
use Rattle.refusal.specs.declared.Refusal.TheVariants.{NoCoverage}
use Rattle.segment.specs.declared.Segment.{Segment}
use Rattle.frame.specs.declared.Given.{Given}
use Rattle.refusal.specs.declared.Refusal.{Refusal}
use Rattle.chain.specs.declared.Leg.{Leg}
use Rattle.chain.specs.declared.Hop.{Hop}
use Rattle.chain.specs.declared.Step.{Step}
use Rattle.chain.specs.declared.Step.TheVariants.{Blocked, Kept, Zero, Refused}
use Rattle.chain.specs.declared.Next.{Next}
use Rattle.chain.specs.declared.Next.TheVariants.{Ended, Onward}
use Rattle.chain.specs.Step.{Evaluation, step_from}

-- The most steps of a walk.
abbrev pub chain_limit : ℕ
chain_limit = 32

-- Refusal 11 for a body.
abbrev pub no_coverage : ℤ → Result Given Refusal
no_coverage body = Err (NoCoverage body)

-- The leg after a hop: its center is the current body, and what it gives joins the sum.
abbrev pub onward : Leg → Hop → Leg
onward leg hop = record { start = leg.start; body = hop.center; et = leg.et; total = plus_given leg.total hop.given }

-- The hop goes back to the starting body.
abbrev pub returns : Leg → Hop → Bool
returns leg hop = same_z hop.center leg.start

-- What a step leads to. No covering segment is 11 for the current body, returning to the starting body is 11 for that one.
abbrev pub advance : Leg → Step → Next
advance leg Blocked = Ended (no_coverage leg.body)
advance leg (Kept hop) = cond (returns leg hop) (Ended (no_coverage leg.start)) (Onward (onward leg hop))
advance leg (Zero x) = Ended (Ok (plus_given leg.total x))
advance leg (Refused r) = Ended (Err r)

-- What the walk results in, where `go` says what it results in from the next leg on.
abbrev pub follow : (Leg → Result Given Refusal) → Next → Result Given Refusal
follow go (Ended e) = e
follow go (Onward leg) = go leg

-- A walk of at most so many steps. None left without body 0 is 11 for the starting body.
unfoldable pub walk_from : Evaluation → List Segment → ℕ → Leg → ℕ → Result Given Refusal
walk_from ev segs n leg zero = no_coverage leg.start
walk_from ev segs n leg (suc left) = follow (λ on. walk_from ev segs n on left) (advance leg (step_from ev segs n leg))

-- The leg's body is body 0.
abbrev pub is_zero : Leg → Bool
is_zero leg = same_z leg.body (pos 0)

-- The state of a leg's body about body 0. Body 0 itself takes no step.
unfoldable pub to_zero : Evaluation → List Segment → ℕ → Leg → Result Given Refusal
to_zero ev segs n leg = cond (is_zero leg) (Ok leg.total) (walk_from ev segs n leg chain_limit)
