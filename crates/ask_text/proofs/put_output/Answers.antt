-- `ask_text::put_output` meets its contract: 18 where a file is too long, no text where a matrix file is given and it or FRAME is none, else the kernel's reply.
use mathlib.Core.Path.{sym, ap, ◌∙◌, subst}
use mathlib.Core.Bool.{true, false}
use mathlib.Core.List.{List}
use Prim.Native.Nat.{ℕ}
use mir.Syntax.{w32}
use mir.ValLaws.{to_z-of_z}
use Rattle.lines.specs.Written.{Written}
use Rattle.lines.proofs.Texts.{written_none, left}
use Rattle.std.specs.Prelude.{Option}
use lib.IntN.{ℤ}
use Rattle.ask_text.specs.FrameText.{frame_number}
use Rattle.ask_text.specs.Text.{ask_text, unfit}
use Rattle.ask_text.proofs.Replies.{output_long, output_short}
use borrow.Author.Rules.{rules}
use Rattle.ask_text.proofs.put_output.Goals as goal

pub returns-then-any_over-clause-written : goal.returns-then-any_over-clause-written
returns-then-any_over-clause-written c =
    let a = c.args in
    rw (output_long a.kernel.now a.asked.now a.turned a.matrix.now a.frame.now (sym c.any_over.ensures ∙ c.if-any_over.true)) (left c.put_refusal.ensures.written (search rules))

pub returns-then-is_unfit-clause-written : goal.returns-then-is_unfit-clause-written
returns-then-is_unfit-clause-written c =
    let a = c.args in subst (λ (l : List ℕ). Written a.out.now 0 l a.out.now 0)
    (sym (output_short a.kernel.now a.asked.now a.turned a.matrix.now a.frame.now true (sym c.any_over.ensures ∙ c.if-any_over.false)
    (ap (λ (x : Option ℤ). unfit a.turned a.matrix.now x) (sym c.frame_named-f.ensures) ∙ sym c.is_unfit.ensures ∙ c.if-is_unfit.true)))
    (written_none a.out.now 0)

pub returns-clause-written : goal.returns-clause-written
returns-clause-written c =
    let a = c.args in subst (λ (l : List ℕ). Written a.out.now 0 l c.put_text.new.out c.put_text.result)
    (ap (ask_text a.kernel.now a.asked.now a.matrix.now)
    (to_z-of_z w32 c.unwrap_or.result (record { sfits = c.unwrap_or.type_inv }) ∙ c.unwrap_or.ensures ∙ ap (λ (x : Option ℤ). frame_number x) c.frame_named-f.ensures)
    ∙ sym (output_short a.kernel.now a.asked.now a.turned a.matrix.now a.frame.now false (sym c.any_over.ensures ∙ c.if-any_over.false)
    (ap (λ (x : Option ℤ). unfit a.turned a.matrix.now x) (sym c.frame_named-f.ensures) ∙ sym c.is_unfit.ensures ∙ c.if-is_unfit.false)))
    c.put_text.ensures.written
