-- `statement_text::put_whole` meets its contract: the line of the refusal, or the lines and the total. Assumes nothing.
use mathlib.Core.Path.{sym, ◌∙◌, subst}
use mathlib.Core.List.{List}
use Prim.Native.Nat.{ℕ}
use Rattle.lines.specs.Written.{Put}
use Rattle.lines.proofs.Texts.{then}
use Rattle.statement_text.proofs.Lines.{refused_text, held_text, held_few}
use Rattle.statement_text.proofs.put_whole.Goals as goal

-- a file has no more lines than there are places
pub shared_ref_as_front-put_lines : goal.shared_ref_as_front-put_lines
shared_ref_as_front-put_lines c = held_few c.args.file.now _ (sym c.add_up.ensures ∙ c.in-Ok.is)

pub returns-in-Err-clause-written : goal.returns-in-Err-clause-written
returns-in-Err-clause-written c =
    subst (λ (t : List ℕ). Put c.args.page.now t c.put_refusal.new.self)
    (sym (refused_text c.args.file.now _ (sym c.add_up.ensures ∙ c.in-Err.is))) c.put_refusal.ensures.written

pub returns-in-Ok-clause-written : goal.returns-in-Ok-clause-written
returns-in-Ok-clause-written c =
    subst (λ (l : List ℕ). Put c.args.page.now l c.put_total.new.page)
    (held_text c.args.file.now _ (sym c.add_up.ensures ∙ c.in-Ok.is)) (then c.put_lines.ensures.written c.put_total.ensures.written)
