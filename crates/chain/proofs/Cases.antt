-- Worked walks, one table under one statement, which antt computes. A segment here is evaluated to six times a number, or refused.
-- Assumes nothing.
use Prim.Native.Nat.{ℕ, zero, suc}
use mathlib.Core.Path.{◌≡◌, refl}
use mathlib.Core.Bool.{Bool, true, false, cond}
use mathlib.Core.List.{List, [], ◌∷◌}
use lib.IntN.{pos}
use lib.Ieee.{Float, binary64, add, le, neg, of_int, of_bits}
use lib.ListN.{length}
use Rattle.bits.specs.F64.{+0, whole}
use Rattle.bits.specs.Same.{same_z}
use Rattle.frame.specs.declared.State.{State}
use Rattle.frame.specs.State.{state_of, zero_state, plus_state}
use Rattle.frame.specs.declared.Framed.{Framed}
use Rattle.frame.specs.declared.Framed.TheVariants.{One, Mixed}
use Rattle.frame.specs.Given.{nothing_given}
use Rattle.refusal.specs.declared.Refusal.TheVariants.{NoCoverage, Unsupported}
use Rattle.segment.specs.declared.Segment.{Segment}
use Rattle.segment.specs.declared.Kind.TheVariants as kinds
use Rattle.std.proofs.Common.{Result, Ok, Err}
use Rattle.refusal.specs.declared.Refusal.{Refusal}
use Rattle.segment.specs.declared.Valued.{Valued}
use Rattle.frame.specs.declared.Given.{Given}
use Rattle.chain.specs.Step.{met, look, step_in, step_from}
use Rattle.chain.specs.Walk.{walk_from, to_zero}

-- a segment of a pair from 0 to 10, in a frame, of a type, with a number for its evaluation
abbrev made : Bool → ℕ → ℕ → ℕ → ℕ → ℕ → Segment
made b f type t c x =
    record {
      target = pos t;
      center = pos c;
      frame = pos f;
      data_type = pos type;
      start = pos x;
      end = pos 9;
      first = whole 0;
      last = whole 10;
      name_at = 0;
      marked = b;
      kind = kinds.Unsupported;
    }

abbrev in_frame : ℕ → ℕ → ℕ → ℕ → ℕ → Segment
in_frame = made false

abbrev stretched : ℕ → ℕ → ℕ → Segment
stretched = made true 1 2

abbrev of_type : ℕ → ℕ → ℕ → ℕ → Segment
of_type = in_frame 1

abbrev of_pair : ℕ → ℕ → ℕ → Segment
of_pair = of_type 2

-- six times a number
abbrev six : Float → State
six x = state_of (λ k. x)

-- a segment of type 2 gives six times its number, -0 for 0, stretched where it is marked, and one of another type is refused
abbrev evaluate : Segment → ℕ → Float → Result Valued Refusal
evaluate s i et =
    cond (same_z s.data_type (pos 2)) (Ok (record { state = six (cond (same_z s.start (pos 0)) (neg +0) (of_int binary64 s.start)); stretched = s.marked }))
    (Err (Unsupported s.data_type))

-- body n about n - 1, and so on down to 1 about 0
abbrev ladder : ℕ → List Segment
ladder zero = []
ladder (suc k) = of_pair (suc k) k 1 ∷ ladder k

abbrev from : ℕ → ℕ → List Segment → Result Given Refusal
from body et segs =
    to_zero evaluate segs (length segs) (record { start = pos body; body = pos body; et = whole et; total = nothing_given })

-- six times a number in frame 1, in any frame, or of several
abbrev framed : Framed → Float → Result Given Refusal
framed f x = Ok (record { state = six x; frame = f; stretched = false })

abbrev gives : Float → Result Given Refusal
gives = framed (One (pos 1))

-- the same in frame 1, of which a record was stretched
abbrev stretches : Float → Result Given Refusal
stretches x = Ok (record { state = six x; frame = One (pos 1); stretched = true })

abbrev eleven : ℕ → Result Given Refusal
eleven body = Err (NoCoverage (pos body))

-- a walk of 32 steps answers, one of 33 is 11 for the starting body; body 0 takes no step
pub ladders : from 32 3 (ladder 32) ∷ from 33 3 (ladder 33) ∷ from 0 3 (ladder 2) ∷ [] ≡ gives (whole 32) ∷ eleven 33 ∷ Ok nothing_given ∷ []
unfolding to_zero walk_from step_from step_in look met plus_state zero_state add le neg of_int of_bits
ladders = refl

-- back at the start; round a ring that avoids it; no segment from the current body; none that covers
pub stuck-cases :
    from 5 3 (of_pair 5 6 1 ∷ of_pair 6 5 1 ∷ []) ∷ from 5 3 (of_pair 5 6 1 ∷ of_pair 6 7 1 ∷ of_pair 7 6 1 ∷ []) ∷ from 5 3 (of_pair 5 6 1 ∷ []) ∷ from 5 11 (of_pair 5 0 1 ∷ []) ∷ []
    ≡ eleven 5 ∷ eleven 5 ∷ eleven 6 ∷ eleven 5 ∷ []
unfolding to_zero walk_from step_from step_in look met plus_state zero_state add le neg of_int of_bits
stuck-cases = refl

-- the first wins; center 0 later in file order is preferred; a refusal ends all, also of a segment that is not taken; after one that
-- goes to body 0 none is evaluated; a sum that starts at +0 keeps no -0
pub step-cases :
    from 5 3 (of_pair 5 6 1 ∷ of_pair 5 7 2 ∷ of_pair 6 0 4 ∷ of_pair 7 0 8 ∷ []) ∷ from 5 3 (of_pair 5 6 1 ∷ of_pair 5 0 2 ∷ of_pair 6 0 4 ∷ [])
    ∷ from 5 3 (of_pair 5 6 1 ∷ of_type 1 5 7 2 ∷ of_pair 6 0 4 ∷ []) ∷ from 5 3 (of_pair 5 0 2 ∷ of_type 1 5 7 2 ∷ []) ∷ from 5 3 (of_pair 5 0 0 ∷ []) ∷ []
    ≡ gives (whole 5) ∷ gives (whole 2) ∷ Err (Unsupported (pos 1)) ∷ gives (whole 2) ∷ gives +0 ∷ []
unfolding to_zero walk_from step_from step_in look met plus_state zero_state add le neg of_int of_bits
step-cases = refl

-- the frame of a walk's sum: two segments of 17, of 1 and 17, of 13 alone; a segment of another frame that is passed over counts for nothing,
-- where the first is taken and where the one that goes to body 0 is
pub frame-cases :
    from 5 3 (in_frame 17 2 5 6 1 ∷ in_frame 17 2 6 0 2 ∷ []) ∷ from 5 3 (in_frame 1 2 5 6 1 ∷ in_frame 17 2 6 0 2 ∷ []) ∷ from 5 3 (in_frame 13 2 5 0 1 ∷ [])
    ∷ from 5 3 (in_frame 17 2 5 6 1 ∷ in_frame 1 2 5 7 2 ∷ in_frame 17 2 6 0 4 ∷ []) ∷ from 5 3 (in_frame 1 2 5 6 1 ∷ in_frame 17 2 5 0 2 ∷ in_frame 1 2 6 0 4 ∷ []) ∷ []
    ≡ framed (One (pos 17)) (whole 3) ∷ framed Mixed (whole 3) ∷ framed (One (pos 13)) (whole 1) ∷ framed (One (pos 17)) (whole 5) ∷ framed (One (pos 17)) (whole 2) ∷ []
unfolding to_zero walk_from step_from step_in look met plus_state zero_state add le neg of_int of_bits
frame-cases = refl

-- whether a walk was stretched: by its first step, by its last, by neither; a stretched segment that is passed over counts for nothing, where the
-- first is taken and where the one that goes to body 0 is
pub word-cases :
    from 5 3 (stretched 5 6 1 ∷ of_pair 6 0 2 ∷ []) ∷ from 5 3 (of_pair 5 6 1 ∷ stretched 6 0 2 ∷ []) ∷ from 5 3 (of_pair 5 6 1 ∷ of_pair 6 0 2 ∷ [])
    ∷ from 5 3 (of_pair 5 6 1 ∷ stretched 5 7 2 ∷ of_pair 6 0 4 ∷ []) ∷ from 5 3 (stretched 5 6 1 ∷ of_pair 5 0 2 ∷ []) ∷ []
    ≡ stretches (whole 3) ∷ stretches (whole 3) ∷ gives (whole 3) ∷ gives (whole 5) ∷ gives (whole 2) ∷ []
unfolding to_zero walk_from step_from step_in look met plus_state zero_state add le neg of_int of_bits
word-cases = refl
