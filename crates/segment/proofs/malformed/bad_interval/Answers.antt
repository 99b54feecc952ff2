-- `segment::bad_interval` meets its contract: 0 times INTLEN is 0 where INTLEN is finite, and a NaN otherwise, which is below nothing. Assumes nothing.
use mathlib.Core.Path.{◌≡◌, refl, ap, ◌∙◌}
use mathlib.Core.Bool.{Bool, true, false, not, ◌&&◌, ◌||◌}
use lib.Ieee.{Float, lt}
use Rattle.bits.specs.F64.{◌⊗◌, +0, finite}
use Rattle.bits.proofs.Finite.{less_itself, zero_times}
use Rattle.segment.proofs.malformed.bad_interval.Goals as goal

-- not all three
not_all : (a b l : Bool) → not (a && b && l) ≡ (not l || not a || not b)
not_all true true true = refl
not_all true true false = refl
not_all true false true = refl
not_all true false false = refl
not_all false b true = refl
not_all false b false = refl

pub returns : goal.returns
returns c =
    let a = c.args in
    ap (λ (z : Float). not (lt (z ⊗ a.intlen) a.intlen)) (less_itself a.init) ∙ ap not (zero_times (finite a.init) a.intlen) ∙ not_all (finite a.init) (finite a.intlen) (lt +0 a.intlen)
