-- Laws of the walk. Assumes nothing.
use Rattle.std.proofs.Common.{Result, Ok, Err}
use Prim.Native.Nat.{ℕ, zero, suc, ◌+◌, ◌-◌, ◌*◌, ◌≤◌, ◌<◌}
use mathlib.Core.Path.{◌≡◌, sym, ap, ◌∙◌}
use mathlib.Core.Bool.{Bool, true, false, cond}
use mathlib.Core.List.{List}
use native.Mathlib.Omega.{arith}
use native.Mathlib.Numerals.{add-one}
use borrow.Author.Tests.{ltb-false, le-ltb, eq-eqb, ne_eqb}
use lib.Dec.{eqb, ltb}
use lib.ListN.{length}
use Rattle.bits.proofs.Tests.{by_test_lem, or_right, or_none}
use Rattle.refusal.specs.declared.Refusal.TheVariants.{RecordPastEnd, RecordTwice}
use Rattle.daf.specs.Walk.{next_of, past_end}
use Rattle.refusal.specs.declared.Refusal.{Refusal}

-- the name record's end is past the kernel's wherever the summary record's is
pub past_end_lem : (k : List ℕ) (r : ℕ) → ltb (length k) (1024 * (r + 1)) ≡ past_end k r
past_end_lem k r =
    by_test_lem (ltb (length k) (1024 * (r + 1))) (λ t. t ∙ sym (or_right (ltb (length k) (1024 * r)) _ t))
    (λ f. f ∙ sym (or_none _ _ (le-ltb (length k) (1024 * r) (shorter (ltb-false (length k) (1024 * (r + 1)) f))) f))
  where
    shorter : 1024 * (r + 1) ≤ length k → 1024 * r ≤ length k
    shorter h = omega arith

-- a record that does not end past the kernel stands in it, with its name record
pub stands : (k : List ℕ) (r : ℕ) → past_end k r ≡ false → 1024 * (r + 1) ≤ length k
stands k r f = ltb-false (length k) (1024 * (r + 1)) (past_end_lem k r ∙ f)

-- ---- the walk as the code runs it: n records are done, and it goes on for at most `left` more

pub counting : List ℕ → ℕ → ℕ → ℕ → Result ℕ Refusal
counting k n zero r = cond (eqb r 0) (Ok n) (cond (past_end k r) (Err RecordPastEnd) (Err RecordTwice))
counting k n (suc left) r = cond (eqb r 0) (Ok n) (cond (past_end k r) (Err RecordPastEnd) (counting k (suc n) left (next_of k r)))

module _ (k : List ℕ) (n : ℕ) where
  -- record 0 ends it
  pub counting_end : (left r : ℕ) → r ≡ 0 → counting k n left r ≡ Ok n
  unfolding counting
  counting_end zero r e = ap (λ (b : Bool). cond b (Ok n) (cond (past_end k r) (Err RecordPastEnd) (Err RecordTwice))) (eq-eqb r 0 e)
  counting_end (suc left) r e = ap (λ (b : Bool). cond b (Ok n) (cond (past_end k r) (Err RecordPastEnd) (counting k (suc n) left (next_of k r)))) (eq-eqb r 0 e)

  -- a record ends past the kernel
  pub counting_past : (left r : ℕ) → (r ≡ 0 → ⊥) → past_end k r ≡ true → counting k n left r ≡ Err RecordPastEnd
  unfolding counting
  counting_past zero r e p = rw (ne_eqb r 0 e, p)
  counting_past (suc left) r e p = rw (ne_eqb r 0 e, p)

  -- no more records can be new
  pub counting_full : (left r : ℕ) → left ≡ 0 → (r ≡ 0 → ⊥) → past_end k r ≡ false → counting k n left r ≡ Err RecordTwice
  unfolding counting
  counting_full left r z e p = ap (λ (l : ℕ). counting k n l r) z ∙ rw (ne_eqb r 0 e, p)

  -- it goes on
  pub counting_on : (left l r : ℕ) → left ≡ suc l → (r ≡ 0 → ⊥) → past_end k r ≡ false → counting k n left r ≡ counting k (suc n) l (next_of k r)
  unfolding counting
  counting_on left l r s e p = ap (λ (m : ℕ). counting k n m r) s ∙ rw (ne_eqb r 0 e, p)

-- what `next_record` and `count_of` ask of a record that the walk reached
pub readable : (k : List ℕ) (r : ℕ) → (r ≡ 0 → ⊥) → past_end k r ≡ false → (1 ≤ r) × (1024 * (r + 1) ≤ length k)
readable k r e p = let h = stands k r p in (omega arith, omega arith)

-- the steps left, counted from the records done
pub counting_start : (k : List ℕ) (most r : ℕ) → counting k 0 most r ≡ counting k 0 (most - 0) r
counting_start k most r = ap (λ (l : ℕ). counting k 0 l r) (same most)
  where
    same : (m : ℕ) → m ≡ m - 0
    same m = omega arith

pub counting_next : (k : List ℕ) (n most r next : ℕ) → n < most → (r ≡ 0 → ⊥) → past_end k r ≡ false → next ≡ next_of k r
    → counting k n (most - n) r ≡ counting k (n + 1) (most - (n + 1)) next
counting_next k n most r next l e p q =
    counting_on k n (most - n) (most - (n + 1)) r (omega arith) e p ∙ rw (q, add-one n)
