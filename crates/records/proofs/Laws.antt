-- Records counted: a whole one lies within the file, and marks found so far. Assumes nothing.
use mathlib.Core.Path.{◌≡◌, refl, sym, ap, ◌∙◌, subst}
use mathlib.Core.Bool.{Bool, true, false, ◌&&◌}
use mathlib.Core.List.{List}
use Prim.Native.Nat.{ℕ, zero, suc, ◌+◌, ◌*◌, ◌/◌, ◌%◌, ◌≤◌, ◌<◌}
use native.Mathlib.Nat.{le_antisymm, le-div_iff_mul-le, mul_comm, mul-suc}
use native.Mathlib.Numerals.{add-one}
use native.Mathlib.Omega.{arith}
use lib.Dec.{ltb}
use lib.ListN.{length}
use borrow.Author.Tests.{ltb-true, ltb-false, eq-eqb, ne_eqb}
use Rattle.bits.proofs.Tests.{by_test_lem, and_both, and_no}
use Rattle.records.specs.declared.Mark.{Mark}
use Rattle.records.specs.Records.{is_marked, all_marked, records_fit}

-- a record below the count is whole
pub whole_record : (size len i : ℕ) → 0 < size → i < len / size → size * i + size ≤ len
whole_record size len i pos below =
    subst (λ (k : ℕ). k ≤ len) (mul_comm (suc i) size ∙ mul-suc size i)
    ((le-div_iff_mul-le {k = size} {x = suc i} {y = len} pos).0 below)

module _ (size : ℕ) (mark : Mark) (s : List ℕ) where
  -- one more record with its mark
  pub one_more : (i : ℕ) → all_marked size mark s i ≡ true → is_marked size mark s i ≡ true → all_marked size mark s (i + 1) ≡ true
  unfolding all_marked
  one_more i h m = subst (λ (k : ℕ). all_marked size mark s k ≡ true) (sym (add-one i)) (and_both (all_marked size mark s i) (is_marked size mark s i) h m)

  and_false : (a b : Bool) → b ≡ false → (a && b) ≡ false
  and_false true b e = e
  and_false false b e = refl

  -- a record without its mark
  pub one_less : (n i : ℕ) → i < n → is_marked size mark s i ≡ false → all_marked size mark s n ≡ false
  unfolding all_marked
  one_less zero i l m = absurd (none l)
    where
      none : i < 0 → ⊥
      none a = omega arith
  one_less (suc n) i l m =
      by_test_lem (ltb i n)
      (λ q. sym (and_no (all_marked size mark s n) (is_marked size mark s n) (one_less n i (ltb-true i n q) m)) ∙ one_less n i (ltb-true i n q) m)
      (λ q. and_false (all_marked size mark s n) (is_marked size mark s n)
      (subst (λ (k : ℕ). is_marked size mark s k ≡ false) (le_antisymm (omega arith) (ltb-false i n q)) m))

  -- the file by its two tests
  pub cut_short_lem : (length s % size ≡ 0 → ⊥) → records_fit size mark s ≡ false
  unfolding records_fit
  cut_short_lem n = ap (λ (b : Bool). b && all_marked size mark s (length s / size)) (ne_eqb (length s % size) 0 n)

  pub whole_file : (b : Bool) → length s % size ≡ 0 → all_marked size mark s (length s / size) ≡ b → records_fit size mark s ≡ b
  unfolding records_fit
  whole_file b e h = ap (λ (t : Bool). t && all_marked size mark s (length s / size)) (eq-eqb (length s % size) 0 e) ∙ h
