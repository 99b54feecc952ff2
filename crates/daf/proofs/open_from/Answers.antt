-- `daf::open_from` meets its contract: what the walk resulted in decides. Assumes nothing.
use mathlib.Core.Path.{refl, sym, ◌∙◌}
use Rattle.daf.proofs.Counting.{stopped, went, counted_next}
use Rattle.std.proofs.lemmas.Result.{err_from_is_err_and}
use Rattle.daf.proofs.open_from.Goals as goal

pub counted-requires : goal.counted-requires
counted-requires c =
    let g = went c.args.kernel.now 0 c.args.first _ _ refl (sym c.walk.ensures ∙ c.in_ok-n.was) in
    (g.sound, g.few)

pub returns-in_err-n : goal.returns-in_err-n
returns-in_err-n c =
    let p = err_from_is_err_and c.from_residual.result c.from_residual.ensures.1 in
    rw (p.1, p.2) (sym (stopped _ _ _ _ _ refl (sym c.walk.ensures ∙ c.in_err-n.was)))

pub returns : goal.returns
returns c =
    c.counted.ensures
    ∙ counted_next _ _ _ _ (went _ _ _ _ _ refl (sym c.walk.ensures ∙ c.in_ok-n.was))
