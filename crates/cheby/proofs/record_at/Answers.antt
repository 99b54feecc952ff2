-- `cheby::record_at` meets its contract: both of one quotient. Assumes nothing.
use mathlib.Core.Path.{◌∙◌, ap}
use lib.Ieee.{Float}
use Rattle.bits.specs.Record.{record_of, reach_of}
use Rattle.cheby.specs.Cheby.{record_for, reach_for}
use Rattle.cheby.proofs.Record.{chosen_eq}
use Rattle.cheby.proofs.record_at.Goals as goal

pub returns : goal.returns
unfolding record_for reach_for
returns c =
    let n = c.args.n in
    let e = c.quotient-q.ensures in
    chosen_eq _ _ (c.record_index.ensures ∙ ap (λ (q : Float). record_of q n) e) (c.reach_of.ensures ∙ ap (λ (q : Float). reach_of q n) e)
