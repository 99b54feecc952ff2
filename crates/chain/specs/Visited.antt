-- One step of a chain over segments that are visited by their numbers, whichever these are. Assumes nothing: these are definitions.
use Rattle.std.specs.Prelude.{ℕ, cond, List, [], ◌∷◌}
use Rattle.segment.specs.declared.Segment.{Segment}
use Rattle.table.specs.Segments.{seg}
use Rattle.chain.specs.declared.Leg.{Leg}
use Rattle.chain.specs.declared.Step.{Step}
use Rattle.chain.specs.Step.{Evaluation, look, is_end}

-- The scan over segments by their numbers, in the list's order.
unfoldable pub step_over : Evaluation → List Segment → Leg → Step → List ℕ → Step
step_over ev segs leg kept [] = kept
step_over ev segs leg kept (i ∷ rest) =
    let next = look ev leg kept (seg segs i) i in
    let more = step_over ev segs leg next rest in
    cond (is_end next) next more
