-- `cheby::record_of_few` meets its contract: both of one quotient. Assumes nothing.
use mathlib.Core.Path.{◌∙◌, ap}
use lib.Ieee.{Float}
use Rattle.bits.specs.Record.{record_of, reach_of}
use Rattle.cheby.specs.Cheby.{record_for, reach_for}
use Rattle.cheby.proofs.Record.{chosen_eq}
use Rattle.cheby.proofs.record_of_few.Goals as goal

pub returns : goal.returns
unfolding record_for reach_for
returns c =
    let n = c.args.n in
    let e = c.quotient-q.ensures in
    chosen_eq _ _ (c.record_of_few.ensures ∙ ap (λ (q : Float). record_of q n) e) (c.reach_of_few.ensures ∙ ap (λ (q : Float). reach_of q n) e)
