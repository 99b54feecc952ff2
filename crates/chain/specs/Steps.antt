-- What the small functions of the code do. No promise of a public entry point needs these. Assumes nothing: these are definitions.
use Rattle.std.specs.Prelude.{ℕ, Bool, true, cond, eqb, pos, Result, Ok}
use Rattle.bits.specs.F64.{+0}
use Rattle.frame.specs.Given.{nothing_given}
use Rattle.frame.specs.declared.Given.{Given}
use Rattle.refusal.specs.declared.Refusal.{Refusal}
use Rattle.chain.specs.declared.Leg.{Leg}
use Rattle.chain.specs.declared.Next.{Next}
use Rattle.chain.specs.declared.Next.TheVariants.{Ended, Onward}
use Rattle.chain.specs.Walk.{no_coverage, is_zero}

-- The walk has ended, or no step is left; what it then results in; the leg that it goes on with, where it does.
abbrev pub is_over : Next → ℕ → Bool
is_over (Ended e) left = true
is_over (Onward leg) left = eqb left 0

abbrev pub end_of : Next → Result Given Refusal
end_of (Ended e) = e
end_of (Onward leg) = no_coverage leg.start

abbrev pub leg_of : Next → Leg
leg_of (Ended e) = record { start = pos 0; body = pos 0; et = +0; total = nothing_given }
leg_of (Onward leg) = leg

-- Where a walk starts: body 0 takes no step.
unfoldable pub begin : Leg → Next
begin leg = cond (is_zero leg) (Ended (Ok leg.total)) (Onward leg)
