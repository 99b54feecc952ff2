-- `ask_text::put_planned` meets its contract: a plan that refuses gives its refusal's line, one that fills the lines of the answers. Assumes nothing.
use Rattle.std.proofs.Common.{ℤ, Option, None, Ok, Err}
use mathlib.Core.Path.{◌≡◌, refl, sym, ap, ◌∙◌, subst}
use mathlib.Core.List.{List}
use Prim.Native.Nat.{ℕ}
use Rattle.frame.specs.Frame.{Matrix}
use Rattle.refusal.specs.declared.Refusal.{Refusal}
use Rattle.daf.specs.declared.Family.TheVariants.{Spk}
use Rattle.segment.specs.declared.Segment.{Segment}
use Rattle.segment.specs.Evaluating.{evaluated}
use Rattle.indexed.specs.Asking.{run_with}
use Rattle.indexed.proofs.Filled.{as_filled}
use Rattle.lines.specs.Written.{Put}
use Rattle.lines.specs.Text.{refusal_text}
use Rattle.ask_text.specs.Text.{questions_in, answers_text}
use Rattle.ask_text.specs.Steps.{turned_from, answers_by, planned_text}
use Rattle.ask_text.proofs.Replies.{without_index}
use Rattle.ask_text.proofs.put_planned.Goals as goal
use Rattle.opening.specs.declared.Filling.{Filling}
use Rattle.opening.specs.Steps.{Plan}

module _ (kernel asked : List ℕ) (p : Plan) (wanted : Option ℤ) (rot : Matrix) where
  by-refusal : (r : Refusal) → p ≡ Err r → refusal_text r ≡ planned_text kernel asked p wanted rot
  unfolding planned_text
  by-refusal r e = sym (ap (λ (y : Plan). planned_text kernel asked y wanted rot) e)

  by-answers : (x : Filling) (ix : List ℕ) → p ≡ Ok x → answers_text 0 (answers_by kernel asked p ix wanted rot (questions_in asked)) ≡ planned_text kernel asked p wanted rot
  by-answers x ix e =
      ap (λ (y : Plan). answers_text 0 (answers_by kernel asked y ix wanted rot (questions_in asked))) e
      ∙ without_index kernel asked x ix wanted rot
      ∙ sym (ap (λ (y : Plan). planned_text kernel asked y wanted rot) e)

pub returns-in-Err-clause-written : goal.returns-in-Err-clause-written
returns-in-Err-clause-written c =
    let a = c.args in
    subst (λ (l : List ℕ). Put a.page.now l c.put_refusal.new.self) (by-refusal a.kernel.now a.asked.now a.p a.wanted a.rot _ c.in-Err.is) c.put_refusal.ensures.written

pub returns-in-Ok-clause-written : goal.returns-in-Ok-clause-written
returns-in-Ok-clause-written c =
    let a = c.args in
    let lines = λ (limit : ℕ) (segs : List Segment) (n : ℕ) (ix : List ℕ).
    answers_text 0 (run_with limit (evaluated Spk a.kernel.now) segs n ix None (turned_from a.wanted a.rot a.asked.now 0 (questions_in a.asked.now))) in
    let same = as_filled Spk a.kernel.now a.p lines _ refl c.no_segment-e.ensures c.carry_out.ensures.0 c.carry_out.ensures.1 c.count_in-n.ensures in
    subst (λ (l : List ℕ). Put a.page.now l c.put_answers.new.page) (same ∙ by-answers a.kernel.now a.asked.now a.p a.wanted a.rot _ _ c.in-Ok.is) c.put_answers.ensures.written
