-- `daf::trimmed` meets its contract: what is left of the bytes is the same after each turn. Assumes nothing.
use Rattle.std.proofs.Common.{◌≡◌, ℕ, Bool, length}
use Rattle.daf.specs.Steps.{trimmed}
use Rattle.daf.proofs.names.trimmed.Given as goal

abbrev pub invariant-loop-bytes : goal.invariant-loop-bytes
invariant-loop-bytes g l =
    (test : ℕ → Bool) → ((b : ℕ) (r : Bool) → goal.F-post g l.is_lost b r → r ≡ test b) → trimmed test l.bytes ≡ trimmed test l.fn.bytes

abbrev pub decreases-loop-bytes : goal.decreases-loop-bytes
decreases-loop-bytes g l = length l.bytes
