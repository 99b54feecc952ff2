-- EXACTLY WHEN a kernel with a file of records is refused: with 18, with a number of the opening's, with 19; and with no other.
--     plan_18, plan_opening, plan_19, plan_other        of a plan, for a kernel of either family, records of any size and mark, any limit
--     opened_18, opened_opening, opened_19, opened_other    of the table by value
-- Assumes nothing.
use Rattle.std.proofs.Common.{Ok, Err}
use Prim.Native.Nat.{ℕ, zero, suc, ◌/◌, ◌%◌, ◌≤◌, ◌<◌}
use mathlib.Core.Path.{◌≡◌, refl, sym, ap, ◌∙◌, subst}
use mathlib.Core.Bool.{Bool, true, false, not, ◌&&◌, ◌||◌, true≢false}
use mathlib.Core.Logic.{◌⊎◌, inl, inr, ⊎_elim, ◌↔◌}
use mathlib.Core.List.{List, [], ◌∷◌, ◌++◌}
use native.Mathlib.Omega.{arith}
use native.Mathlib.Decide.{dec_lt}
use lib.Dec.{eqb, ltb}
use lib.ListN.{length}
use borrow.Author.Tests.{ltb-true, ltb-false, lt-ltb, le-ltb, eqb-true, eqb-false}
use Rattle.bits.proofs.Tests.{by_test_lem}
use Rattle.refusal.specs.declared.Refusal.{Refusal}
use Rattle.refusal.specs.declared.Refusal.TheVariants.{InputTooLong, BadRecord}
use Rattle.refusal.specs.Numbers.{number_of}
use Rattle.refusal.specs.Order.{Case, First, None, given, first_of}
use Rattle.refusal.proofs.Exactly.{given_where, given_only, given_some}
use Rattle.daf.specs.declared.Family.{Family}
use Rattle.table.specs.Places.{table_limit}
use Rattle.table.specs.declared.Table.{Table}
use Rattle.opening.specs.Lent as lent
use Rattle.opening.specs.Opening.{places_of, refused_opening, accepted_opening, marked_for, table_of, segments_of, open_cases}
use Rattle.opening.specs.Steps.{Plan, filling, start_of}
use Rattle.opening.proofs.Planned.{none_answer}
use Rattle.opening.proofs.Exact.{one_refusal, no_refusal, found_some, found_where, found_accepted}
use Rattle.records.specs.declared.Mark.{Mark}
use Rattle.records.specs.Records.{is_marked, all_marked, records_fit}
use Rattle.records.proofs.Laws.{one_less, cut_short_lem, whole_file}
use Rattle.streams.specs.Input.{input_limit}
use Rattle.admission.specs.Order.{too_long, record_cases, file_cases, run_plan, plan_for, opened_for}
use Rattle.admission.specs.When.{When18, Short, BadFile, WhenOpening, When19, ProgramNumber}

-- ---- 18
pub long_where : (kernel file : List ℕ) → When18 kernel file → too_long kernel file ≡ true
long_where kernel file w =
    ⊎_elim (λ l. ap (λ (b : Bool). b || ltb input_limit (length file)) (lt-ltb input_limit (length kernel) l))
    (λ l. ap (λ (b : Bool). ltb input_limit (length kernel) || b) (lt-ltb input_limit (length file) l) ∙ or_true (ltb input_limit (length kernel))) w
  where
    or_true : (b : Bool) → (b || true) ≡ true
    or_true true = refl
    or_true false = refl

pub short_where : (kernel file : List ℕ) → Short kernel file → too_long kernel file ≡ false
short_where kernel file s = rw (le-ltb input_limit (length kernel) s.kernel_fits, le-ltb input_limit (length file) s.file_fits)

-- by the two tests
pub by_length : (kernel file : List ℕ) → When18 kernel file ⊎ Short kernel file
by_length kernel file =
    by_test_lem (ltb input_limit (length kernel)) (λ a. inl (inl (ltb-true input_limit (length kernel) a)))
    (λ a.
    by_test_lem (ltb input_limit (length file)) (λ b. inl (inr (ltb-true input_limit (length file) b)))
    (λ b. inr (record { kernel_fits = ltb-false input_limit (length kernel) a; file_fits = ltb-false input_limit (length file) b })))

long_only : (kernel file : List ℕ) → too_long kernel file ≡ true → When18 kernel file
long_only kernel file h = ⊎_elim (λ w. w) (λ s. absurd (true≢false (sym h ∙ short_where kernel file s))) (by_length kernel file)

short_only : (kernel file : List ℕ) → too_long kernel file ≡ false → Short kernel file
short_only kernel file h = ⊎_elim (λ w. absurd (true≢false (sym (long_where kernel file w) ∙ h))) (λ s. s) (by_length kernel file)

-- ---- 19
module _ (size : ℕ) (mark : Mark) (file : List ℕ) where
  unmarked : (n : ℕ) → all_marked size mark file n ≡ false → (i : ℕ) × (i < n) × (is_marked size mark file i ≡ false)
  unfolding all_marked
  unmarked zero h = absurd (true≢false h)
  unmarked (suc n) h =
      by_test_lem (is_marked size mark file n)
      (λ m. let rest = unmarked n (first_no (all_marked size mark file n) (is_marked size mark file n) m h) in (rest.0, below rest.1, rest.2))
      (λ m. (n, omega arith, m))
    where
      first_no : (a b : Bool) → b ≡ true → (a && b) ≡ false → a ≡ false
      first_no false b m e = refl
      first_no true b m e = absurd (true≢false (sym m ∙ e))

      below : {i : ℕ} → i < n → i < suc n
      below l = omega arith

  bad_only : records_fit size mark file ≡ false → BadFile size mark file
  bad_only h =
      by_test_lem (eqb (length file % size) 0)
      (λ e. inl
      (by_test_lem (all_marked size mark file (length file / size))
      (λ a. absurd (true≢false (sym (whole_file size mark file true (eqb-true (length file % size) 0 e) a) ∙ h))) (λ a. unmarked (length file / size) a)))
      (λ e. inr (eqb-false (length file % size) 0 e))

  bad_where : BadFile size mark file → records_fit size mark file ≡ false
  bad_where b =
      ⊎_elim (λ w. marked w) (λ n. cut_short_lem size mark file n) b
    where
      marked : (i : ℕ) × (i < length file / size) × (is_marked size mark file i ≡ false) → records_fit size mark file ≡ false
      marked w =
          by_test_lem (eqb (length file % size) 0)
          (λ e. whole_file size mark file false (eqb-true (length file % size) 0 e) (one_less size mark file (length file / size) w.0 w.1 w.2))
          (λ e. cut_short_lem size mark file (eqb-false (length file % size) 0 e))

not_true : (b : Bool) → not b ≡ true → b ≡ false
not_true false e = refl
not_true true e = absurd (true≢false (sym e))

-- ---- the first case of a list after another
behind : (cs ds : List Case) → First (cs ++ ds) (length cs) → None cs × First ds 0
behind [] ds h = (tt, h)
behind (c ∷ cs) ds h = let rest = behind cs ds h.1 in ((h.0, rest.0), rest.1)

ahead : (cs ds : List Case) → None cs → First ds 0 → First (cs ++ ds) (length cs)
ahead [] ds n h = h
ahead (c ∷ cs) ds n h = (n.0, ahead cs ds n.1 h)

within : (cs ds : List Case) (i : ℕ) → First cs i → First (cs ++ ds) i
within [] ds i h = absurd h
within (c ∷ cs) ds zero h = h
within (c ∷ cs) ds (suc i) h = (h.0, within cs ds i h.1)

before : (cs ds : List Case) (i : ℕ) → i < length cs → First (cs ++ ds) i → First cs i
before [] ds i l h = absurd (let x = l in omega arith)
before (c ∷ cs) ds zero l h = h
before (c ∷ cs) ds (suc i) l h = (h.0, before cs ds i (omega arith) h.1)

given_append : (cs ds : List Case) (i : ℕ) → i < length cs → given (cs ++ ds) i ≡ given cs i
given_append [] ds i l = absurd (let x = l in omega arith)
given_append (c ∷ cs) ds zero l = refl
given_append (c ∷ cs) ds (suc i) l = given_append cs ds i (omega arith)

-- ---- for whatever is made of the refusals and of the answer
module _ {A : Type 0} (refused : Refusal → A) (answer : A) (one : (r s : Refusal) → refused r ≡ refused s → r ≡ s) (other : (r : Refusal) → answer ≡ refused r → ⊥)
    (f : Family) (limit size : ℕ) (mark : Mark) (kernel file : List ℕ) where
  abbrev all : List Case
  all = file_cases f limit size mark kernel file

  abbrev result : A
  result = first_of all refused answer

  by_18 : When18 kernel file ↔ (result ≡ refused InputTooLong)
  by_18 = (
    λ w. given_where refused answer all 0 (long_where kernel file w),
    λ e. long_only kernel file (given_only refused answer one other all 0 tt (omega arith) e),
  )

  by_19 : When19 f limit size mark kernel file ↔ (result ≡ refused BadRecord)
  unfolding lent.found
  by_19 = (where_19, λ e. only_19 (given_only refused answer one other all 10 tt (omega arith) e))
    where
      where_19 : When19 f limit size mark kernel file → result ≡ refused BadRecord
      where_19 w =
          let none = (found_accepted f limit kernel w.count w.accepted).0 in
          given_where refused answer all 10
          (short_where kernel file w.short, ahead (open_cases f limit kernel) (record_cases size mark file) none (ap not (bad_where size mark file w.bad)))

      only_19 : First all 10 → When19 f limit size mark kernel file
      only_19 h =
          let b = behind (open_cases f limit kernel) (record_cases size mark file) h.1 in
          record {
            short = short_only kernel file h.0;
            count = length (places_of kernel);
            accepted = none_answer (open_cases f limit kernel) Err (Ok (length (places_of kernel))) b.0;
            bad = bad_only size mark file (not_true (records_fit size mark file) b.1);
          }

  -- each case has the number of the list
  number_at : (j : ℕ) → j < 11 → ProgramNumber (number_of (given all j))
  number_at zero l = inr (inl refl)
  number_at (suc zero) l = inl (omega arith, omega arith)
  number_at (suc (suc zero)) l = inl (omega arith, omega arith)
  number_at (suc (suc (suc zero))) l = inl (omega arith, omega arith)
  number_at (suc (suc (suc (suc zero)))) l = inl (omega arith, omega arith)
  number_at (suc (suc (suc (suc (suc zero))))) l = inl (omega arith, omega arith)
  number_at (suc (suc (suc (suc (suc (suc zero)))))) l = inl (omega arith, omega arith)
  number_at (suc (suc (suc (suc (suc (suc (suc zero))))))) l = inl (omega arith, omega arith)
  number_at (suc (suc (suc (suc (suc (suc (suc (suc zero)))))))) l = inl (omega arith, omega arith)
  number_at (suc (suc (suc (suc (suc (suc (suc (suc (suc zero))))))))) l = inl (omega arith, omega arith)
  number_at (suc (suc (suc (suc (suc (suc (suc (suc (suc (suc zero)))))))))) l = inr (inr refl)
  number_at (suc (suc (suc (suc (suc (suc (suc (suc (suc (suc (suc j))))))))))) l = absurd (let x = l in omega arith)

  by_other : (r : Refusal) → result ≡ refused r → ProgramNumber (number_of r)
  by_other r e =
      let g = given_some refused answer one other all r e in
      subst (λ (x : Refusal). ProgramNumber (number_of x)) (sym g.3) (number_at g.0 g.1)

  by_opening : (r : Refusal) → number_of r ≤ 9 → WhenOpening f limit size mark kernel file r ↔ (result ≡ refused r)
  by_opening r small = (where_opening, λ e. let g = given_some refused answer one other all r e in only g.0 g.1 g.2 g.3)
    where
      where_opening : WhenOpening f limit size mark kernel file r → result ≡ refused r
      where_opening w =
          let g = found_some f limit kernel r w.refused in
          given_where refused answer all (suc g.0) (short_where kernel file w.short, within (open_cases f limit kernel) (record_cases size mark file) g.0 g.2)
          ∙ ap refused (given_append (open_cases f limit kernel) (record_cases size mark file) g.0 g.1 ∙ sym g.3)

      at_19 : (i : ℕ) → i ≡ 9 → r ≡ given all (suc i) → ⊥
      at_19 i e x = let n : number_of r ≡ 19 = ap number_of x ∙ ap (λ (y : ℕ). number_of (given all (suc y))) e in omega arith

      only : (j : ℕ) → j < 11 → First all j → r ≡ given all j → WhenOpening f limit size mark kernel file r
      only zero l h x = absurd (let n : number_of r ≡ 18 = ap number_of x in omega arith)
      only (suc i) l h x =
          elim (dec_lt i 9) [
            | yes b ↦
                record {
                  short = short_only kernel file h.0;
                  refused =
                      found_where f limit kernel i (before (open_cases f limit kernel) (record_cases size mark file) i b h.1)
                      ∙ ap Err (sym (x ∙ given_append (open_cases f limit kernel) (record_cases size mark file) i b));
                }
            | no b ↦ absurd (at_19 i (omega arith) x)
          ]

-- ---- a plan with 18 before it: by this the outputs of `ask` and `orient` are refused (`output_refused` of `ask_text` and of `orient_text`)
one_plan : (r s : Refusal) → ◌≡◌ {A = Plan} (Err r) (Err s) → r ≡ s
one_plan r s e = cc

module _ (f : Family) (limit size : ℕ) (mark : Mark) (kernel file : List ℕ) where
  fills : (r : Refusal) → Ok (filling (length (places_of kernel)) (start_of kernel)) ≡ Err r → ⊥
  fills r e = let z : ◌≡◌ {A = ℕ} 0 1 = cc in omega arith

  -- **exactly-when**, 18
  pub plan_18 : When18 kernel file ↔ (plan_for f limit size mark kernel file ≡ Err InputTooLong)
  unfolding plan_for run_plan
  plan_18 = by_18 Err _ one_plan fills f limit size mark kernel file

  -- **exactly-when**, 1 to 9
  pub plan_opening : (r : Refusal) → number_of r ≤ 9 → WhenOpening f limit size mark kernel file r ↔ (plan_for f limit size mark kernel file ≡ Err r)
  unfolding plan_for run_plan
  plan_opening = by_opening Err _ one_plan fills f limit size mark kernel file

  -- **exactly-when**, 19
  pub plan_19 : When19 f limit size mark kernel file ↔ (plan_for f limit size mark kernel file ≡ Err BadRecord)
  unfolding plan_for run_plan
  plan_19 = by_19 Err _ one_plan fills f limit size mark kernel file

  -- no other number
  pub plan_other : (r : Refusal) → plan_for f limit size mark kernel file ≡ Err r → ProgramNumber (number_of r)
  unfolding plan_for run_plan
  plan_other = by_other Err _ one_plan fills f limit size mark kernel file

-- ---- with the table by value
module _ (f : Family) (size : ℕ) (mark : Mark) (kernel file : List ℕ) where
  abbrev table : Table
  table = marked_for f (table_of (segments_of f kernel))

  pub opened_18 : When18 kernel file ↔ (opened_for f size mark kernel file ≡ refused_opening InputTooLong)
  unfolding opened_for
  opened_18 = by_18 refused_opening (accepted_opening table) one_refusal (no_refusal table) f table_limit size mark kernel file

  pub opened_opening : (r : Refusal) → number_of r ≤ 9 → WhenOpening f table_limit size mark kernel file r ↔ (opened_for f size mark kernel file ≡ refused_opening r)
  unfolding opened_for
  opened_opening = by_opening refused_opening (accepted_opening table) one_refusal (no_refusal table) f table_limit size mark kernel file

  pub opened_19 : When19 f table_limit size mark kernel file ↔ (opened_for f size mark kernel file ≡ refused_opening BadRecord)
  unfolding opened_for
  opened_19 = by_19 refused_opening (accepted_opening table) one_refusal (no_refusal table) f table_limit size mark kernel file

  pub opened_other : (r : Refusal) → opened_for f size mark kernel file ≡ refused_opening r → ProgramNumber (number_of r)
  unfolding opened_for
  opened_other = by_other refused_opening (accepted_opening table) one_refusal (no_refusal table) f table_limit size mark kernel file
