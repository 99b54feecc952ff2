-- `orient_text::put_output` meets its contract: 18 where a file is too long, else the kernel's reply. Assumes nothing.
use mathlib.Core.Path.{sym, ◌∙◌, subst}
use mathlib.Core.Bool.{true, false}
use mathlib.Core.List.{List}
use Prim.Native.Nat.{ℕ}
use Rattle.lines.specs.Written.{Written}
use Rattle.lines.proofs.Texts.{left}
use Rattle.orient_text.proofs.Replies.{output_text}
use borrow.Author.Rules.{rules}
use Rattle.orient_text.proofs.put_output.Goals as goal

pub returns-then-over-clause-written : goal.returns-then-over-clause-written
returns-then-over-clause-written c =
    rw (output_text c.args.kernel.now c.args.asked.now true (sym c.over.ensures ∙ c.if-over.true)) (left c.put_refusal.ensures.written (search rules))

pub returns-else-over-clause-written : goal.returns-else-over-clause-written
returns-else-over-clause-written c =
    let a = c.args in subst (λ (l : List ℕ). Written a.out.now 0 l c.put_text.new.out c.put_text.result)
    (sym (output_text a.kernel.now a.asked.now false (sym c.over.ensures ∙ c.if-over.false))) c.put_text.ensures.written
