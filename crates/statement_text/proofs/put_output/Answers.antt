-- `statement_text::put_output` meets its contract: 18 where the file is too long, else the statement. Assumes nothing.
use mathlib.Core.Path.{sym, ◌∙◌, subst}
use mathlib.Core.Bool.{true, false}
use mathlib.Core.List.{List}
use Prim.Native.Nat.{ℕ}
use borrow.Author.Rules.{rules}
use Rattle.lines.specs.Written.{Written}
use Rattle.lines.proofs.Texts.{left}
use Rattle.statement_text.proofs.Lines.{program_text_lem}
use Rattle.statement_text.proofs.put_output.Goals as goal

pub returns-then-too_long-clause-written : goal.returns-then-too_long-clause-written
returns-then-too_long-clause-written c =
    rw (program_text_lem c.args.file.now true (sym c.too_long.ensures ∙ c.if-too_long.true)) (left c.put_refusal.ensures.written (search rules))

pub returns-else-too_long-clause-written : goal.returns-else-too_long-clause-written
returns-else-too_long-clause-written c =
    subst (λ (l : List ℕ). Written c.args.out.now 0 l c.put_statement.new.out c.put_statement.result)
    (sym (program_text_lem c.args.file.now false (sym c.too_long.ensures ∙ c.if-too_long.false))) c.put_statement.ensures.written
