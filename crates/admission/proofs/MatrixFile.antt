-- EXACTLY WHEN a run with a matrix file is refused with 18, and when it goes on; else its matrix file is none.
--     matrix_18, matrix_taken
-- Assumes nothing.
use Prim.Native.Nat.{ℕ, ◌≤◌, ◌<◌}
use mathlib.Core.Path.{◌≡◌, refl, sym, ap, ◌∙◌}
use mathlib.Core.Bool.{Bool, true, false, cond, ◌||◌, true≢false}
use mathlib.Core.Logic.{◌⊎◌, inl, inr, ⊎_elim, ◌↔◌}
use mathlib.Core.List.{List}
use native.Mathlib.Omega.{arith}
use lib.Dec.{eqb, ltb}
use lib.ListN.{length}
use borrow.Author.Tests.{ltb-true, ltb-false, lt-ltb, le-ltb, eqb-true, eqb-false, eq-eqb}
use Rattle.std.specs.Prelude.{Result, Ok, Err}
use Rattle.bits.proofs.Tests.{by_test_lem}
use Rattle.streams.specs.Input.{input_limit}
use Rattle.admission.specs.declared.MatrixFault.{MatrixFault}
use Rattle.admission.specs.declared.MatrixFault.TheVariants.{TooLong, Unfit}
use Rattle.admission.specs.Order.{too_long, any_too_long, matrix_size, matrix_for}
use Rattle.admission.specs.When.{When18, Short, MatrixLong, AllShort}
use Rattle.admission.proofs.Exactly.{long_where, short_where, by_length}

module _ (kernel file matrix : List ℕ) where
  -- by the two tests of the code
  pub too_long_lem : any_too_long kernel file matrix ≡ true → matrix_for kernel file matrix ≡ Err TooLong
  unfolding matrix_for
  too_long_lem e = rw e

  pub all_short : (b : Bool) → any_too_long kernel file matrix ≡ false → eqb (length matrix) matrix_size ≡ b → matrix_for kernel file matrix ≡ cond b (Ok tt) (Err Unfit)
  unfolding matrix_for
  all_short b e f = rw (e, f)

  -- by each file's
  over_matrix : ltb input_limit (length matrix) ≡ true → matrix_for kernel file matrix ≡ Err TooLong
  unfolding matrix_for
  over_matrix e = rw e

  over_others : ltb input_limit (length matrix) ≡ false → too_long kernel file ≡ true → matrix_for kernel file matrix ≡ Err TooLong
  unfolding matrix_for
  over_others e f = rw (e, f)

  by_size : (b : Bool) → ltb input_limit (length matrix) ≡ false → too_long kernel file ≡ false → eqb (length matrix) matrix_size ≡ b → matrix_for kernel file matrix ≡ cond b (Ok tt) (Err Unfit)
  unfolding matrix_for
  by_size b e f g = rw (e, f, g)

  long : MatrixLong kernel file matrix → matrix_for kernel file matrix ≡ Err TooLong
  long =
      ⊎_elim (λ l. over_matrix (lt-ltb input_limit (length matrix) l))
      (λ w. by_test_lem (ltb input_limit (length matrix)) over_matrix (λ e. over_others e (long_where kernel file w)))

  short : AllShort kernel file matrix → (b : Bool) → eqb (length matrix) matrix_size ≡ b → matrix_for kernel file matrix ≡ cond b (Ok tt) (Err Unfit)
  short s b = by_size b (le-ltb input_limit (length matrix) s.matrix_fits) (short_where kernel file (record { kernel_fits = s.kernel_fits; file_fits = s.file_fits }))

  either : MatrixLong kernel file matrix ⊎ AllShort kernel file matrix
  either =
      by_test_lem (ltb input_limit (length matrix)) (λ a. inl (inl (ltb-true input_limit (length matrix) a)))
      (λ a. ⊎_elim (λ w. inl (inr w)) (λ s. inr (record { kernel_fits = s.kernel_fits; file_fits = s.file_fits; matrix_fits = ltb-false input_limit (length matrix) a })) (by_length kernel file))

  -- **exactly-when**, 18 of a run with a matrix file: one of the three files is over the limit
  pub matrix_18 : MatrixLong kernel file matrix ↔ (matrix_for kernel file matrix ≡ Err TooLong)
  matrix_18 = (long, λ h. ⊎_elim (λ w. w) (λ s. absurd (no (eqb (length matrix) matrix_size) (sym (short s _ refl) ∙ h))) either)
    where
      no : (b : Bool) → ◌≡◌ {A = Result (Unit {0}) MatrixFault} (cond b (Ok tt) (Err Unfit)) (Err TooLong) → ⊥
      no true e = cc
      no false e = cc

  -- it goes on if and only if none is, and the matrix file has 72 bytes
  pub matrix_taken : (AllShort kernel file matrix × (length matrix ≡ matrix_size)) ↔ (matrix_for kernel file matrix ≡ Ok tt)
  matrix_taken = (λ w. short w.0 true (eq-eqb (length matrix) matrix_size w.1), λ h. ⊎_elim (λ w. absurd (clash w h)) (λ s. (s, fits s h)) either)
    where
      clash : MatrixLong kernel file matrix → matrix_for kernel file matrix ≡ Ok tt → ⊥
      clash w h = let z : ◌≡◌ {A = Result (Unit {0}) MatrixFault} (Err TooLong) (Ok tt) = sym (long w) ∙ h in cc

      fits : AllShort kernel file matrix → matrix_for kernel file matrix ≡ Ok tt → length matrix ≡ matrix_size
      fits s h =
          by_test_lem (eqb (length matrix) matrix_size) (λ e. eqb-true (length matrix) matrix_size e)
          (λ e. absurd (let z : ◌≡◌ {A = Result (Unit {0}) MatrixFault} (Err Unfit) (Ok tt) = sym (short s false e) ∙ h in cc))
