-- A question to a PCK: RULES, "Questions to a PCK". Assumes nothing: these are definitions.
-- Everything is over the kernel's bytes, the list of segments, their count and the table's limit.
use Rattle.std.specs.Prelude.{ℕ, Bool, false, cond, ◌&&◌, List, [], ◌∷◌, ltb, ℤ, pos, Result, Ok, Err}
use Rattle.std.specs.Float.Ieee.{is_nan}
use Rattle.bits.specs.Same.{same_z}
use Rattle.refusal.specs.declared.Refusal.{Refusal}
use Rattle.refusal.specs.declared.Refusal.TheVariants.{TableUnfit, EpochNan, NoCoverage, NotFinite}
use Rattle.refusal.specs.Order.{case, first_of}
use Rattle.frame.specs.declared.State.{State}
use Rattle.frame.specs.State.{zero_state, finite_state}
use Rattle.daf.specs.declared.Family.TheVariants.{Pck}
use Rattle.segment.specs.declared.Segment.{Segment}
use Rattle.std.specs.Prelude.{Result, Ok, Err}
use Rattle.segment.specs.declared.Valued.{Valued}
use Rattle.segment.specs.Evaluating.{evaluated}
use Rattle.std.specs.Prelude.{Option, Some, None}
use Rattle.table.specs.Segments.{seg, is_covering}
use Rattle.table.specs.Choosing.{last_in}
use Rattle.pck.specs.declared.Question.{Question}
use Rattle.pck.specs.declared.Oriented.{Oriented}

-- ---- what an answer holds

-- Every answer is made here: how it ended, the reference frame, the three angles with their rates, and whether a record was stretched.
abbrev pub oriented_of : Result (Unit {0}) Refusal → ℤ → State → Bool → Oriented
oriented_of outcome frame angles stretched = record { outcome = outcome; frame = frame; angles = angles; stretched = stretched }

-- A refusal: its number and detail, no frame and six zeros, and no record was stretched.
unfoldable pub refused_oriented : Refusal → Oriented
refused_oriented r = oriented_of (Err r) (pos 0) zero_state false

-- The answer of what a segment was evaluated to: its refusal, then 15, then its reference frame with the six numbers and its word.
unfoldable pub settled : Segment → Result Valued Refusal → Oriented
settled s (Ok v) = cond (finite_state v.state) (oriented_of (Ok tt) s.frame v.state v.stretched) (refused_oriented NotFinite)
settled s (Err r) = refused_oriented r

-- ---- which segment answers

-- A segment is of the question's body frame, which stands as its target.
abbrev pub is_body : Question → Segment → Bool
is_body q s = same_z s.target q.body

-- It is of the body frame and covers the epoch, whatever its type.
abbrev pub hits : Question → Segment → Bool
hits q s = is_body q s && is_covering s q.et

-- The last covering segment of the body frame, in file order.
abbrev pub chosen : List Segment → ℕ → Question → Option ℕ
chosen segs n q = last_in (hits q) segs n

-- No segment of the body frame covers the epoch: 11, for the body frame.
abbrev pub no_coverage : Question → Refusal
no_coverage q = NoCoverage q.body

-- What a choice results in.
abbrev pub oriented_by : List ℕ → List Segment → Question → Option ℕ → Oriented
oriented_by k segs q (Some i) = settled (seg segs i) (evaluated Pck k (seg segs i) i q.et)
oriented_by k segs q None = refused_oriented (no_coverage q)

-- The order: a count over the limit (14), an epoch that is NaN (10), the choice.
unfoldable pub oriented : ℕ → List ℕ → List Segment → ℕ → Question → Oriented
oriented limit k segs n q =
    first_of (case (ltb limit n) TableUnfit ∷ case (is_nan q.et) EpochNan ∷ []) refused_oriented (oriented_by k segs q (chosen segs n q))
