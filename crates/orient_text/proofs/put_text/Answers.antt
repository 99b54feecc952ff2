-- `orient_text::put_text` meets its contract: the plan can be carried out, and its reply is the text. Assumes nothing.
use mathlib.Core.Path.{sym, ap, ◌∙◌, subst}
use native.Mathlib.Nat.{le_refl}
use native.Mathlib.Omega.{arith}
use Rattle.daf.specs.declared.Family.TheVariants.{Pck}
use Rattle.table.specs.Places.{lent_limit}
use Rattle.opening.specs.Steps.{Fits}
use Rattle.lines.proofs.Texts.{left}
use Rattle.admission.proofs.Ways.{run_plan_fits}
use Rattle.orient_text.specs.Records.{question_size, question_mark}
use Rattle.orient_text.specs.Steps.{planned_text}
use Rattle.orient_text.proofs.Replies.{planned_text_lem}
use borrow.Author.Rules.{rules}
use Rattle.orient_text.proofs.put_text.Goals as goal

pub put_planned-requires : goal.put_planned-requires
put_planned-requires c =
    let kernel = c.args.kernel.now in (
      subst (Fits lent_limit kernel) (sym c.plan-p.ensures) (run_plan_fits Pck lent_limit question_size question_mark kernel c.args.asked.now lent_limit (le_refl lent_limit)),
      omega arith,
    )

pub returns-clause-written : goal.returns-clause-written
returns-clause-written c =
    let a = c.args in rw (← (ap (planned_text a.kernel.now a.asked.now) c.plan-p.ensures ∙ planned_text_lem a.kernel.now a.asked.now)) (left c.put_planned.ensures.written (search rules))
