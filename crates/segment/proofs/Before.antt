-- AS BEFORE: state and refusal of an evaluation are those of the definition from before it said whether a record was stretched (`Before` in `specs`).
-- Assumes nothing.
use Prim.Native.Nat.{ℕ}
use mathlib.Core.Path.{◌≡◌, sym}
use mathlib.Core.List.{List}
use lib.Ieee.{Float}
use Rattle.refusal.proofs.Exactly.{first_through}
use Rattle.daf.specs.declared.Family.{Family}
use Rattle.segment.specs.Evaluating.{cases, evaluated}
use Rattle.segment.specs.Before.{old_evaluated, bare_evaluated}
use Rattle.segment.specs.declared.Segment.{Segment}
use Rattle.std.proofs.Common.{Err}

pub evaluated_as_before : (f : Family) (k : List ℕ) (s : Segment) (i : ℕ) (et : Float) → bare_evaluated (evaluated f k s i et) ≡ old_evaluated f k s i et
unfolding evaluated old_evaluated
evaluated_as_before f k s i et = sym (first_through (cases f k s i et) Err _ bare_evaluated)
