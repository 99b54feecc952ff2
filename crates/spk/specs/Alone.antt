-- A segment evaluated alone, covering or not: RULES, "Evaluating a segment". Assumes nothing: these are definitions.
use Rattle.std.specs.Prelude.{ℕ, List, [], ◌∷◌, ltb, leb, Float}
use Rattle.std.specs.Float.Ieee.{is_nan}
use Rattle.refusal.specs.declared.Refusal.TheVariants.{TableUnfit, EpochNan, NoSegment}
use Rattle.refusal.specs.Order.{case, first_of}
use Rattle.segment.specs.declared.Segment.{Segment}
use Rattle.table.specs.Segments.{seg}
use Rattle.chain.specs.Step.{Evaluation, yield_of}
use Rattle.spk.specs.declared.Way.TheVariants.{Forward}
use Rattle.spk.specs.declared.Answer.{Answer}
use Rattle.spk.specs.Answers.{refused_answer, settled}

-- The order: a count over the limit (14), an epoch that is NaN (10), no segment of that number (17), the segment's tests, 15.
-- No memory takes part. Segment i is s.
unfoldable pub alone_with : ℕ → Evaluation → ℕ → ℕ → Float → Segment → Answer
alone_with limit ev n i et s =
    first_of (case (ltb limit n) TableUnfit ∷ case (is_nan et) EpochNan ∷ case (leb n i) NoSegment ∷ []) refused_answer
    (settled (Forward i) (yield_of s (ev s i et)))

-- Segment i of a table.
abbrev pub alone_answer : ℕ → Evaluation → List Segment → ℕ → ℕ → Float → Answer
alone_answer limit ev segs n i et = alone_with limit ev n i et (seg segs i)
