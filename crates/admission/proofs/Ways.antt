-- Laws of the order of the refusals, one for each way through the code: 18, the opening's, 19. Assumes nothing.
use Rattle.std.proofs.Common.{Ok, Err}
use mathlib.Core.Path.{◌≡◌, refl, sym, ap, ◌∙◌}
use mathlib.Core.Bool.{Bool, true, false, not, cond, ◌||◌, true≢false}
use mathlib.Core.List.{List, [], ◌∷◌, ◌++◌}
use Prim.Native.Nat.{ℕ, ◌≤◌}
use native.Mathlib.Omega.{arith}
use lib.ListN.{length, length-replicate}
use Rattle.refusal.specs.declared.Refusal.{Refusal}
use Rattle.refusal.specs.declared.Refusal.TheVariants.{InputTooLong, BadRecord}
use Rattle.refusal.specs.Order.{case, None, first_of}
use Rattle.refusal.proofs.Exactly.{first_append, first_through}
use Rattle.daf.specs.declared.Family.{Family}
use Rattle.table.specs.Places.{table_limit, empty_places}
use Rattle.table.specs.Segments.{empty_segment}
use Rattle.opening.specs.declared.Filling.{Filling}
use Rattle.opening.specs.Opening.{places_of, segments_of, open_cases}
use Rattle.opening.specs.Lent.{filled_with, marked_list, table_after}
use Rattle.opening.specs.Steps.{Plan, filling, start_of, plan_of, Fits, carried_out}
use Rattle.opening.proofs.Planned.{first_two, none_both, none_answer, plan_fits, carried_all}
use Rattle.owned.specs.Owned.{opened_by}
use Rattle.owned.proofs.Owning.{opened_of}
use Rattle.records.specs.declared.Mark.{Mark}
use Rattle.records.specs.Records.{records_fit}
use Rattle.admission.specs.Order.{too_long, record_cases, cases_of, file_cases, run_plan, plan_for, opened_for}

-- the first half of an `||` did not hold, and so the whole is the second
pub or_no : (a b : Bool) → a ≡ false → b ≡ (a || b)
or_no true b e = absurd (true≢false e)
or_no false b e = refl

module _ (f : Family) (limit size : ℕ) (mark : Mark) (kernel file : List ℕ) where
  -- what follows the opening's own plan
  after : Plan → Plan
  after (Err r) = Err r
  after (Ok p) = cond (not (records_fit size mark file)) (Err BadRecord) (Ok p)

  by_long : Bool → Plan
  by_long b = cond b (Err InputTooLong) (run_plan f limit size mark kernel file)

  -- 18
  pub too_long_lem : too_long kernel file ≡ true → Err InputTooLong ≡ plan_for f limit size mark kernel file
  unfolding plan_for by_long
  too_long_lem h = sym (ap by_long h)

  pub short_enough : too_long kernel file ≡ false → run_plan f limit size mark kernel file ≡ plan_for f limit size mark kernel file
  unfolding plan_for by_long
  short_enough h = sym (ap by_long h)

  by_plan : run_plan f limit size mark kernel file ≡ after (plan_of f limit kernel)
  unfolding run_plan plan_of after
  by_plan =
      first_append (open_cases f limit kernel) (record_cases size mark file) Err (Ok (filling (length (places_of kernel)) (start_of kernel)))
      ∙ first_through (open_cases f limit kernel) Err (Ok (filling (length (places_of kernel)) (start_of kernel))) after

  module _ (p : Plan) (is : p ≡ plan_of f limit kernel) where
    -- a refusal of the opening
    pub refused_too : (r : Refusal) → p ≡ Err r → Err r ≡ run_plan f limit size mark kernel file
    unfolding after
    refused_too r e = sym (by_plan ∙ ap after (sym is ∙ e))

    -- 19
    pub bad_record : (x : Filling) → p ≡ Ok x → records_fit size mark file ≡ false → Err BadRecord ≡ run_plan f limit size mark kernel file
    unfolding after
    bad_record x e h = sym (by_plan ∙ ap after (sym is ∙ e) ∙ ap (λ (b : Bool). cond (not b) (Err BadRecord) (Ok x)) h)

    -- the opening's plan
    pub planned_too : (x : Filling) → p ≡ Ok x → records_fit size mark file ≡ true → Ok x ≡ run_plan f limit size mark kernel file
    unfolding after
    planned_too x e h = sym (by_plan ∙ ap after (sym is ∙ e) ∙ ap (λ (b : Bool). cond (not b) (Err BadRecord) (Ok x)) h)

  -- where none of these refusals holds, none of the opening's does
  pub none_opening : None (cases_of f limit size mark kernel file) → None (open_cases f limit kernel)
  none_opening none = (none_both (open_cases f limit kernel) (record_cases size mark file) none).0

  -- the plan can be carried out
  pub run_plan_fits : (places : ℕ) → limit ≤ places → Fits places kernel (run_plan f limit size mark kernel file)
  unfolding run_plan
  run_plan_fits places le = plan_fits f limit places kernel (cases_of f limit size mark kernel file) none_opening le

  pub plan_for_fits : (places : ℕ) → limit ≤ places → Fits places kernel (plan_for f limit size mark kernel file)
  unfolding plan_for run_plan
  plan_for_fits places le = plan_fits f limit places kernel (file_cases f limit size mark kernel file) (λ none. none_opening none.1) le

  -- what is made of the refusals, 18 first, and of the opening's plan is made of the plan with 18 before it
  pub plan_printed : {A : Type 0} (by : Plan → A)
      → first_of (case (too_long kernel file) InputTooLong ∷ []) (λ r. by (Err r)) (first_of (cases_of f limit size mark kernel file) (λ r. by (Err r)) (by (Ok (filling (length (places_of kernel)) (start_of kernel)))))
      ≡ by (plan_for f limit size mark kernel file)
  unfolding plan_for run_plan
  plan_printed by =
      ap (cond (too_long kernel file) (by (Err InputTooLong))) (first_through (cases_of f limit size mark kernel file) Err (Ok (filling (length (places_of kernel)) (start_of kernel))) by)
      ∙ first_through (case (too_long kernel file) InputTooLong ∷ []) Err (run_plan f limit size mark kernel file) by

  -- what is made of the plan: of its refusals, and of the opening's plan where none holds
  pub plan_replies : {A : Type 0} (refused : Refusal → A) (answer : A) (by : Plan → A) → ((r : Refusal) → by (Err r) ≡ refused r)
      → (None (open_cases f limit kernel) → by (Ok (filling (length (places_of kernel)) (start_of kernel))) ≡ answer) → by (run_plan f limit size mark kernel file) ≡ first_of (cases_of f limit size mark kernel file) refused answer
  unfolding run_plan
  plan_replies {A} refused answer by refuses fills =
      first_two (cases_of f limit size mark kernel file) Err (Ok (filling (length (places_of kernel)) (start_of kernel))) refused answer (λ (p : Plan) (x : A). by p ≡ x) refuses (λ none. fills (none_opening none))

places_length : (n : ℕ) → length (empty_places n) ≡ n
unfolding empty_places
places_length n = length-replicate n empty_segment

-- the table that it then leaves in the empty places is the opening's
pub table_of_plan : (f : Family) (limit : ℕ) (kernel : List ℕ) → None (open_cases f limit kernel)
    → carried_out f kernel (Ok (filling (length (places_of kernel)) (start_of kernel))) (empty_places limit) ≡ table_after f limit kernel (empty_places limit)
unfolding table_after
table_of_plan f limit kernel none =
    carried_all f limit kernel none (empty_places limit) (omega (arith, places_length limit))
    ∙ sym (none_answer (open_cases f limit kernel) (λ r. empty_places limit) (marked_list f (length (places_of kernel)) (filled_with (segments_of f kernel) (empty_places limit))) none)

-- with the table by value
pub opened_for_lem : (f : Family) (size : ℕ) (mark : Mark) (kernel file : List ℕ) → let p = plan_for f table_limit size mark kernel file in
    opened_by p (carried_out f kernel p (empty_places table_limit)) ≡ opened_for f size mark kernel file
unfolding plan_for run_plan opened_for
opened_for_lem f size mark kernel file =
    opened_of f kernel (file_cases f table_limit size mark kernel file) (λ none. none_opening f table_limit size mark kernel file none.1)
