-- `daf::open` meets its contract: the file record decides, and then what is after it. Assumes nothing.
use mathlib.Core.Path.{sym, ◌∙◌}
use Rattle.daf.proofs.Heading.{open_refused, open_next}
use Rattle.std.proofs.lemmas.Result.{err_from_is_err_and}
use Rattle.daf.proofs.open.Goals as goal

pub returns-in_err-first : goal.returns-in_err-first
returns-in_err-first c =
    let p = err_from_is_err_and c.from_residual.result c.from_residual.ensures.1 in
    rw (p.1, p.2) (sym (open_refused _ _ _ _ (sym c.file_record.ensures ∙ c.in_err-first.was)))

pub returns : goal.returns
returns c =
    c.open_from.ensures
    ∙ sym (open_next _ _ _ _ (sym c.file_record.ensures ∙ c.in_ok-first.was))
