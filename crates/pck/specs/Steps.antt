-- What a question goes by: the definition of `Orienting`, with the segment that was found handed in. Assumes nothing: these are definitions.
use Rattle.std.specs.Prelude.{ℕ, Bool, cond, List, [], ◌∷◌, ltb, option_map}
use Rattle.std.specs.Result.{result_err}
use Rattle.std.specs.Float.Ieee.{is_nan}
use Rattle.refusal.specs.declared.Refusal.TheVariants.{TableUnfit, EpochNan}
use Rattle.refusal.specs.Order.{case, first_of}
use Rattle.daf.specs.declared.Family.TheVariants.{Pck}
use Rattle.segment.specs.declared.Segment.{Segment}
use Rattle.segment.specs.Evaluating.{evaluated}
use Rattle.std.specs.Prelude.{Option, Some, None}
use Rattle.table.specs.Steps.{ready}
use Rattle.pck.specs.declared.Question.{Question}
use Rattle.pck.specs.declared.Oriented.{Oriented}
use Rattle.pck.specs.Orienting.{refused_oriented, settled, hits, no_coverage}

-- A segment is of the body frame and covers the epoch.
abbrev pub body_hits : Question → Segment → Bool
body_hits q s = hits q s

-- What the tests before the choice answer, in `oriented`'s order: 14, then 10; none where no test decides.
unfoldable pub early : ℕ → ℕ → Question → Option Oriented
early limit n q = option_map refused_oriented (result_err (ready limit n q.et))

-- What a choice, which is s, results in.
abbrev pub turned_by : List ℕ → Question → Option ℕ → Segment → Oriented
turned_by k q (Some i) s = settled s (evaluated Pck k s i q.et)
turned_by k q None s = refused_oriented (no_coverage q)

-- The order of `oriented`, with the choice handed in.
unfoldable pub oriented_with : ℕ → List ℕ → ℕ → Question → Option ℕ → Segment → Oriented
oriented_with limit k n q c s =
    first_of (case (ltb limit n) TableUnfit ∷ case (is_nan q.et) EpochNan ∷ []) refused_oriented (turned_by k q c s)
