-- `orient_text::put_planned` meets its contract: a plan that refuses gives its refusal's line, one that fills the lines of the orientations. Assumes nothing.
use Rattle.std.proofs.Common.{Ok, Err}
use mathlib.Core.Path.{◌≡◌, refl, sym, ap, ◌∙◌, subst}
use mathlib.Core.List.{List}
use Prim.Native.Nat.{ℕ}
use Rattle.refusal.specs.declared.Refusal.{Refusal}
use Rattle.daf.specs.declared.Family.TheVariants.{Pck}
use Rattle.segment.specs.declared.Segment.{Segment}
use Rattle.indexed.proofs.Filled.{as_filled}
use Rattle.lines.specs.Written.{Put}
use Rattle.lines.specs.Text.{refusal_text}
use Rattle.orient_text.specs.Text.{questions_in}
use Rattle.orient_text.specs.Steps.{orientations_by, lines_by, planned_text}
use Rattle.orient_text.proofs.Replies.{without_index}
use Rattle.orient_text.proofs.put_planned.Goals as goal
use Rattle.opening.specs.declared.Filling.{Filling}
use Rattle.opening.specs.Steps.{Plan}

module _ (kernel asked : List ℕ) (p : Plan) where
  by-refusal : (r : Refusal) → p ≡ Err r → refusal_text r ≡ planned_text kernel asked p
  unfolding planned_text
  by-refusal r e = sym (ap (λ (y : Plan). planned_text kernel asked y) e)

  by_lines : (x : Filling) (ix : List ℕ) → p ≡ Ok x → lines_by kernel asked p ix (questions_in asked) ≡ planned_text kernel asked p
  by_lines x ix e =
      ap (λ (y : Plan). lines_by kernel asked y ix (questions_in asked)) e
      ∙ without_index kernel asked x ix
      ∙ sym (ap (λ (y : Plan). planned_text kernel asked y) e)

pub returns-in-Err-clause-written : goal.returns-in-Err-clause-written
returns-in-Err-clause-written c =
    let a = c.args in subst (λ (l : List ℕ). Put a.page.now l c.put_refusal.new.self) (by-refusal a.kernel.now a.asked.now a.p _ c.in-Err.is) c.put_refusal.ensures.written

pub returns-in-Ok-clause-written : goal.returns-in-Ok-clause-written
returns-in-Ok-clause-written c =
    let a = c.args in
    let lines = λ (limit : ℕ) (segs : List Segment) (n : ℕ) (ix : List ℕ). orientations_by limit a.kernel.now segs n ix a.asked.now 0 (questions_in a.asked.now) in
    let same = as_filled Pck a.kernel.now a.p lines _ refl c.no_segment-e.ensures c.carry_out.ensures.0 c.carry_out.ensures.1 c.count_in-n.ensures in
    subst (λ (l : List ℕ). Put a.page.now l c.put_orientations.new.page) (same ∙ by_lines a.kernel.now a.asked.now a.p _ _ c.in-Ok.is) c.put_orientations.ensures.written
