-- One step of a chain: the scan of the segments that leave the current body. Assumes nothing: these are definitions.
use Rattle.std.specs.Prelude.{ℕ, zero, suc, Bool, true, false, cond, ◌&&◌, List, pos, Float, Result, Ok, Err}
use Rattle.bits.specs.Same.{same_z}
use Rattle.frame.specs.declared.Given.{Given}
use Rattle.frame.specs.Given.{given_of}
use Rattle.segment.specs.declared.Segment.{Segment}
use Rattle.segment.specs.declared.Valued.{Valued}
use Rattle.refusal.specs.declared.Refusal.{Refusal}
use Rattle.table.specs.Segments.{is_covering, seg}
use Rattle.chain.specs.declared.Leg.{Leg}
use Rattle.chain.specs.declared.Step.{Step}
use Rattle.chain.specs.declared.Step.TheVariants.{Blocked, Kept, Zero, Refused}

-- An evaluation of segments by their numbers at an epoch: `evaluated Spk k` for a kernel k.
abbrev pub Evaluation : Type 0
Evaluation = Segment → ℕ → Float → Result Valued Refusal

-- What a segment gives: its state is in its own frame, with its word.
abbrev pub given_by : Segment → Valued → Given
given_by s x = given_of x.state s.frame x.stretched

abbrev pub yield_of : Segment → Result Valued Refusal → Result Given Refusal
yield_of s (Ok x) = Ok (given_by s x)
yield_of s (Err r) = Err r

-- The segment's target is the current body, and it covers the epoch.
abbrev pub leaves : Segment → Leg → Bool
leaves s leg = same_z s.target leg.body && is_covering s leg.et

-- The segment's center is body 0.
abbrev pub reaches_zero : Segment → Bool
reaches_zero s = same_z s.center (pos 0)

-- The first segment that was met stays.
abbrev pub kept_or : Step → Step → Step
kept_or Blocked next = next
kept_or (Kept hop) next = Kept hop
kept_or (Zero x) next = Zero x
kept_or (Refused r) next = Refused r

-- The scan with one more segment, which gives x: the first whose center is 0 is taken, else the first.
unfoldable pub met : Step → Segment → Given → Step
met kept s x = cond (reaches_zero s) (Zero x) (kept_or kept (Kept (record { center = s.center; given = x })))

-- The same by what evaluating it resulted in: any refusal ends all.
abbrev pub seen : Step → Segment → Result Valued Refusal → Step
seen kept s (Ok x) = met kept s (given_by s x)
seen kept s (Err r) = Refused r

-- The scan with segment i: each covering segment of the current body is evaluated, the others are passed over.
unfoldable pub look : Evaluation → Leg → Step → Segment → ℕ → Step
look ev leg kept s i = cond (leaves s leg) (seen kept s (ev s i leg.et)) kept

-- A segment whose center is 0 and a refusal end the scan.
abbrev pub is_end : Step → Bool
is_end Blocked = false
is_end (Kept hop) = false
is_end (Zero x) = true
is_end (Refused r) = true

-- The scan goes on over r segments from number i on. There is one recursive call: with one in each arm of a `cond` a closed case
-- would take 2 ^ r steps.
unfoldable pub step_in : Evaluation → List Segment → Leg → Step → ℕ → ℕ → Step
step_in ev segs leg kept i zero = kept
step_in ev segs leg kept i (suc r) =
    let next = look ev leg kept (seg segs i) i in
    let rest = step_in ev segs leg next (suc i) r in
    cond (is_end next) next rest

-- The step from a leg's body over the first n segments, in file order.
unfoldable pub step_from : Evaluation → List Segment → ℕ → Leg → Step
step_from ev segs n leg = step_in ev segs leg Blocked 0 n
