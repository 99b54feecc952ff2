use Rattle.std.proofs.Common.{◌≡◌, ◌∙◌, ap, replicate}
use Rattle.segment.specs.declared.Segment.{Segment}
use Rattle.table.specs.Places.{table_limit, empty_places}
use Rattle.opening.specs.Steps.{carried_out}
use Rattle.owned.specs.Owned.{opened_by}
use Rattle.owned.proofs.open_by.Goals as goal

-- the places that are lent are empty ones
pub returns : goal.returns
unfolding empty_places
returns c =
    let a = c.args in
    c.opened_by.ensures
    ∙ ap (opened_by a.p) (c.carry_out.ensures ∙ ap (λ (s : Segment). carried_out a.family a.kernel.now a.p (replicate table_limit s)) c.no_segment-e.ensures)
