-- EXACTLY WHEN a listing is refused: with 18, with a number of the opening's, and with no other; and that the output is then the line of the refusal.
-- Assumes nothing.
use Rattle.std.proofs.Common.{Result, Ok, Err}
use Prim.Native.Nat.{ℕ, ◌≤◌}
use mathlib.Core.Path.{◌≡◌, refl, sym, ap, ◌∙◌}
use mathlib.Core.Logic.{inl, inr, ◌↔◌}
use mathlib.Core.Bool.{true, false}
use mathlib.Core.List.{List, ◌++◌, append-nil}
use native.Mathlib.Omega.{arith}
use lib.Dec.{ltb}
use lib.ListN.{length}
use borrow.Author.Tests.{ltb-true, ltb-false, lt-ltb, le-ltb}
use Rattle.bits.proofs.Tests.{by_test_lem}
use Rattle.refusal.specs.declared.Refusal.{Refusal}
use Rattle.refusal.specs.declared.Refusal.TheVariants.{InputTooLong}
use Rattle.refusal.specs.Numbers.{number_of}
use Rattle.daf.specs.declared.Family.TheVariants.{Spk}
use Rattle.table.specs.Places.{lent_limit}
use Rattle.opening.specs.Lent as lent
use Rattle.opening.specs.Steps.{Plan, plan_of, found_in, count_in}
use Rattle.opening.proofs.Planned.{found_told_lem}
use Rattle.opening.proofs.Exact.{found_numbers}
use Rattle.lines.specs.Text.{refusal_text}
use Rattle.streams.specs.Input.{input_limit}
use Rattle.listing_text.specs.Plan.{list_plan}
use Rattle.listing_text.specs.When.{When18, WhenOpening, ListingNumber}
use Rattle.listing_text.specs.Steps.{first_text}
use Rattle.listing_text.specs.Text.{table_in, segments_from, listing_output}
use Rattle.listing_text.proofs.Planned.{list_long, list_plan_lem}
use Rattle.listing_text.proofs.Texts.{plan_text, output_text}

one_plan : (r s : Refusal) → ◌≡◌ {A = Plan} (Err r) (Err s) → r ≡ s
one_plan r s e = cc

-- a plan refuses exactly where the opening does
refuses : (p : Plan) (r : Refusal) → found_in p ≡ Err r → p ≡ Err r
refuses (Err x) r h = let e : ◌≡◌ {A = Result ℕ Refusal} (Err x) (Err r) = h in cc
refuses (Ok p) r h = let z : ◌≡◌ {A = ℕ} 0 1 = cc in absurd (let y = z in omega arith)

module _ (k : List ℕ) where
  planned_where : (r : Refusal) → lent.found Spk lent_limit k ≡ Err r → plan_of Spk lent_limit k ≡ Err r
  planned_where r h = refuses (plan_of Spk lent_limit k) r (found_told_lem Spk lent_limit k ∙ h)

  planned_only : (r : Refusal) → plan_of Spk lent_limit k ≡ Err r → lent.found Spk lent_limit k ≡ Err r
  planned_only r h = sym (found_told_lem Spk lent_limit k) ∙ ap found_in h

  -- by the length of the kernel
  data Why (r : Refusal) : Type 0 where
    long : When18 k → InputTooLong ≡ r → Why r
    opening : WhenOpening k r → Why r

  why : (r : Refusal) → list_plan k ≡ Err r → Why r
  why r h =
      by_test_lem (ltb input_limit (length k)) (λ e. long (ltb-true input_limit (length k) e) (one_plan InputTooLong r (list_long k e ∙ h)))
      (λ e. opening (record { short = ltb-false input_limit (length k) e; refused = planned_only r (list_plan_lem k e ∙ h) }))

  -- **exactly-when**, 18
  pub list_18 : When18 k ↔ (list_plan k ≡ Err InputTooLong)
  list_18 = (λ l. sym (list_long k (lt-ltb input_limit (length k) l)), λ h. only (why InputTooLong h))
    where
      only : Why InputTooLong → When18 k
      only (long l e) = l
      only (opening w) = absurd (let n = found_numbers Spk lent_limit k InputTooLong w.refused in omega arith)

  -- **exactly-when**, 1 to 9
  pub list_opening : (r : Refusal) → number_of r ≤ 9 → WhenOpening k r ↔ (list_plan k ≡ Err r)
  list_opening r small = (
    λ w. sym (list_plan_lem k (le-ltb input_limit (length k) w.short)) ∙ planned_where r w.refused,
    λ h. only (why r h),
  )
    where
      only : Why r → WhenOpening k r
      only (long l e) = absurd (let n = ap number_of e in omega arith)
      only (opening w) = w

  -- no other number
  pub list_other : (r : Refusal) → list_plan k ≡ Err r → ListingNumber (number_of r)
  list_other r h = only (why r h)
    where
      only : Why r → ListingNumber (number_of r)
      only (long l e) = inr (sym (ap number_of e))
      only (opening w) = inl (found_numbers Spk lent_limit k r w.refused)

  -- **what is put**: the first line that this gives, then a line for each segment that is listed
  abbrev text_of : Plan → List ℕ
  text_of p = first_text p ++ segments_from (table_in k) 0 (count_in p)

  refused_text : (r : Refusal) → text_of (Err r) ≡ refusal_text r
  unfolding first_text segments_from
  refused_text r = append-nil (refusal_text r)

  pub list_put : listing_output k ≡ text_of (list_plan k)
  list_put =
      by_test_lem (ltb input_limit (length k))
      (λ e. output_text k true e ∙ sym (refused_text InputTooLong) ∙ ap text_of (list_long k e))
      (λ e. output_text k false e ∙ sym (plan_text k (table_in k) refl) ∙ ap text_of (list_plan_lem k e))

  -- a refusal is its line alone
  pub list_line : (r : Refusal) → list_plan k ≡ Err r → listing_output k ≡ refusal_text r
  list_line r h = list_put ∙ ap text_of h ∙ refused_text r
