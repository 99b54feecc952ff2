-- What the plan replies is the text of the definitions: through the index that it leaves a question is answered as without one, and its table is the
-- opening's. Assumes nothing.
use Rattle.std.proofs.Common.{Ok, Err}
use mathlib.Core.Path.{◌≡◌, refl, ap, ap₂, ◌∙◌}
use mathlib.Core.Bool.{Bool, cond}
use mathlib.Core.List.{List, ◌++◌}
use Prim.Native.Nat.{ℕ, zero, suc}
use Rattle.refusal.specs.declared.Refusal.{Refusal}
use Rattle.refusal.specs.declared.Refusal.TheVariants.{InputTooLong}
use Rattle.daf.specs.declared.Family.TheVariants.{Pck}
use Rattle.segment.specs.declared.Segment.{Segment}
use Rattle.table.specs.Places.{lent_limit}
use Rattle.pck.specs.declared.Question.{Question}
use Rattle.pck.specs.declared.Oriented.{Oriented}
use Rattle.pck.specs.Orienting.{oriented}
use Rattle.indexed.specs.Orienting.{oriented_with}
use Rattle.indexed.specs.Opening.{indexed_by}
use Rattle.indexed.proofs.Orienting.{no_index}
use Rattle.indexed.proofs.Opening.{planned_right}
use Rattle.lines.specs.Text.{refusal_text}
use Rattle.admission.specs.Order.{too_long, run_plan, plan_for}
use Rattle.admission.proofs.Ways.{plan_replies, table_of_plan, plan_printed}
use Rattle.orient_text.specs.Records.{question_size, question_mark, question_at}
use Rattle.orient_text.specs.Lines.{oriented_text}
use Rattle.orient_text.specs.Text.{table_in, count_in, questions_in, orientations_from, orient_text, orient_output}
use Rattle.orient_text.specs.Steps.{lines_of, table_by, lines_by, planned_text}
use Rattle.opening.specs.declared.Filling.{Filling}
use Rattle.opening.specs.Steps.{Plan}

-- ---- the lines go by the answers alone
lines_same : (one other : Question → Oriented) → ((q : Question) → one q ≡ other q) → (asked : List ℕ) (i many : ℕ) → lines_of one asked i many ≡ lines_of other asked i many
unfolding lines_of
lines_same one other e asked i zero = refl
lines_same one other e asked i (suc many) =
    ap₂ (λ (a : Oriented) (l : List ℕ). oriented_text i a ++ l) (e (question_at asked i)) (lines_same one other e asked (suc i) many)

lines_from : (kernel asked : List ℕ) (i many : ℕ) → lines_of (oriented lent_limit kernel (table_in kernel) (count_in kernel)) asked i many ≡ orientations_from kernel asked i many
unfolding lines_of orientations_from
lines_from kernel asked i zero = refl
lines_from kernel asked i (suc many) = ap (λ (l : List ℕ). oriented_text i (oriented lent_limit kernel (table_in kernel) (count_in kernel) (question_at asked i)) ++ l) (lines_from kernel asked (suc i) many)

-- ---- through the index that a plan left
pub without_index : (kernel asked : List ℕ) (x : Filling) (ix : List ℕ) → lines_by kernel asked (Ok x) ix (questions_in asked) ≡ planned_text kernel asked (Ok x)
unfolding planned_text
without_index kernel asked x ix =
    let segs = table_by kernel (Ok x) in
    let after = indexed_by (Ok x) segs ix in
    lines_same (oriented_with lent_limit kernel segs x.count after) (oriented lent_limit kernel segs x.count) (λ q. no_index lent_limit kernel segs x.count q after (planned_right x segs ix)) asked 0 (questions_in asked)

-- ---- the text
pub planned_text_lem : (kernel asked : List ℕ) → planned_text kernel asked (run_plan Pck lent_limit question_size question_mark kernel asked) ≡ orient_text kernel asked
unfolding orient_text planned_text table_in
planned_text_lem kernel asked =
    plan_replies Pck lent_limit question_size question_mark kernel asked refusal_text (orientations_from kernel asked 0 (questions_in asked)) (planned_text kernel asked) (λ r. refl)
    (λ none. ap (λ (segs : List Segment). lines_of (oriented lent_limit kernel segs (count_in kernel)) asked 0 (questions_in asked)) (table_of_plan Pck lent_limit kernel none) ∙ lines_from kernel asked 0 (questions_in asked))

-- ---- 18 before it
pub output_text : (kernel asked : List ℕ) (b : Bool) → too_long kernel asked ≡ b → orient_output kernel asked ≡ cond b (refusal_text InputTooLong) (orient_text kernel asked)
unfolding orient_output
output_text kernel asked b e = ap (λ (t : Bool). cond t (refusal_text InputTooLong) (orient_text kernel asked)) e

-- ---- the exactly_when theorems of `admission` are about the plan with 18 before it: where it refuses, the output is its refusal's line alone
module _ (kernel asked : List ℕ) where
  abbrev printed : Plan → List ℕ
  printed (Err r) = refusal_text r
  printed (Ok p) = orientations_from kernel asked 0 (questions_in asked)

  output_printed : orient_output kernel asked ≡ printed (plan_for Pck lent_limit question_size question_mark kernel asked)
  unfolding orient_text
  output_printed = output_text kernel asked (too_long kernel asked) refl ∙ plan_printed Pck lent_limit question_size question_mark kernel asked printed

  -- THEOREM: the line of the refusal that the plan gives, alone
  pub output_refused : (r : Refusal) → plan_for Pck lent_limit question_size question_mark kernel asked ≡ Err r → orient_output kernel asked ≡ refusal_text r
  output_refused r e = output_printed ∙ ap printed e

  -- THEOREM: where it fills, a line for each orientation
  pub output_answered : (x : Filling) → plan_for Pck lent_limit question_size question_mark kernel asked ≡ Ok x → orient_output kernel asked ≡ orientations_from kernel asked 0 (questions_in asked)
  output_answered x e = output_printed ∙ ap printed e
