-- `frame::State::each_finite` meets its contract: the six differences are +0 or the NaN, and so are their sums. Assumes nothing.
use mathlib.Core.Path.{◌≡◌, refl}
use mathlib.Core.Bool.{Bool, true, false, ◌&&◌}
use Rattle.bits.proofs.Finite.{less_itself, zeros_add, zero_below}
use Rattle.frame.specs.State.{finite_state}
use Rattle.frame.proofs.State.each_finite.Goals as goal

-- every other one first
regrouped : (a b c d e f : Bool) → ((a && c) && e) && ((b && d) && f) ≡ a && b && c && d && e && f
regrouped false b c d e f = refl
regrouped true false false d e f = refl
regrouped true false true d false f = refl
regrouped true false true d true f = refl
regrouped true true false d e f = refl
regrouped true true true false false f = refl
regrouped true true true false true f = refl
regrouped true true true true e f = refl

pub returns : goal.returns
unfolding finite_state
returns c = simp (less_itself, zeros_add, zero_below, regrouped)
