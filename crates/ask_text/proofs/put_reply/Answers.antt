-- `ask_text::put_reply` meets its contract: the plan's reply, with the matrix or without one, is the text. Assumes nothing.
use mathlib.Core.Path.{◌≡◌, sym, ap, ◌∙◌, subst}
use mathlib.Core.List.{List}
use Prim.Native.Nat.{ℕ}
use native.Mathlib.Nat.{le_refl}
use lib.IntN.{ℤ}
use mir.Syntax.{w32}
use mir.ValLaws.{to_z-of_z}
use borrow.Author.Tests.{eq-eqb, ne_eqb}
use Rattle.daf.specs.declared.Family.TheVariants.{Spk}
use Rattle.frame.specs.Frame.{Matrix}
use Rattle.table.specs.Places.{lent_limit}
use Rattle.opening.specs.Steps.{Plan, Fits}
use Rattle.std.proofs.Common.{Some}
use Rattle.lines.specs.Written.{Put}
use Rattle.admission.specs.Order.{run_plan}
use Rattle.admission.proofs.Ways.{run_plan_fits}
use Rattle.ask_text.specs.Records.{question_size, question_mark}
use Rattle.ask_text.specs.Steps.{planned_text}
use Rattle.ask_text.proofs.Replies.{turned_text_lem, plain_text}
use Rattle.ask_text.proofs.put_reply.Goals as goal

-- the plan can be carried out
fits : (kernel asked : List ℕ) (p : Plan) → p ≡ run_plan Spk lent_limit question_size question_mark kernel asked → Fits lent_limit kernel p
fits kernel asked p e = subst (Fits lent_limit kernel) (sym e) (run_plan_fits Spk lent_limit question_size question_mark kernel asked lent_limit (le_refl lent_limit))

pub put_planned-requires : goal.put_planned-requires
put_planned-requires c =
    (fits c.args.kernel.now c.args.asked.now c.plan-p.result c.plan-p.ensures, c.requires)

pub put_planned-requires-else-matrix-eq-MATRIX : goal.put_planned-requires-else-matrix-eq-MATRIX
put_planned-requires-else-matrix-eq-MATRIX c =
    (fits c.args.kernel.now c.args.asked.now c.plan-p.result c.plan-p.ensures, c.requires)

pub returns-then-matrix-eq-MATRIX-clause-written : goal.returns-then-matrix-eq-MATRIX-clause-written
returns-then-matrix-eq-MATRIX-clause-written c =
    let a = c.args in subst (λ (l : List ℕ). Put a.page.now l c.put_planned.new.page)
    (ap (λ (f : ℤ). planned_text a.kernel.now a.asked.now c.plan-p.result (Some f) c.rows.result) (to_z-of_z w32 a.frame c.ranges.frame)
    ∙ ap (λ (y : Plan). planned_text a.kernel.now a.asked.now y (Some a.frame) c.rows.result) c.plan-p.ensures
    ∙ ap (λ (m : Matrix). planned_text a.kernel.now a.asked.now (run_plan Spk lent_limit question_size question_mark a.kernel.now a.asked.now) (Some a.frame) m) c.rows.ensures
    ∙ turned_text_lem a.kernel.now a.asked.now a.matrix.now a.frame (eq-eqb _ _ c.if-matrix-eq-MATRIX.true))
    c.put_planned.ensures.written

pub returns-else-matrix-eq-MATRIX-clause-written : goal.returns-else-matrix-eq-MATRIX-clause-written
returns-else-matrix-eq-MATRIX-clause-written c =
    let a = c.args in subst (λ (l : List ℕ). Put a.page.now l c.put_planned-else-matrix-eq-MATRIX.new.page)
    (ap (λ (y : Plan). planned_text a.kernel.now a.asked.now y _ _) c.plan-p.ensures
    ∙ plain_text a.kernel.now a.asked.now a.matrix.now a.frame _ (ne_eqb _ _ c.if-matrix-eq-MATRIX.false))
    c.put_planned-else-matrix-eq-MATRIX.ensures.written
