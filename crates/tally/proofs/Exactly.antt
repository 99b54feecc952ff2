-- Exactly when a usage file is refused with 19, when with 20, and when it has a statement. Assumes nothing.
use mathlib.Core.Path.{◌≡◌, refl, sym, ap, ◌∙◌, subst}
use mathlib.Core.Bool.{true}
use mathlib.Core.Logic.{◌⊎◌, inl, inr, ⊎_elim}
use mathlib.Core.List.{List, [], ◌∷◌}
use Prim.Native.Nat.{ℕ, zero, suc, ◌+◌, ◌%◌, ◌≤◌, ◌<◌}
use native.Mathlib.Nat.{le_antisymm}
use native.Mathlib.Numerals.{add-one}
use native.Mathlib.Omega.{arith}
use lib.Dec.{ltb, eqb}
use lib.ListN.{length}
use borrow.Author.Tests.{ltb-true, ltb-false, eqb-true, eqb-false}
use Rattle.bits.proofs.Tests.{by_test_lem}
use Rattle.std.specs.Prelude.{Result, Err}
use Rattle.refusal.specs.declared.Refusal.{Refusal}
use Rattle.refusal.specs.declared.Refusal.TheVariants.{BadRecord, TooManySuppliers}
use Rattle.records.specs.Records.{is_marked}
use Rattle.tally.specs.Usage.{usage_size, usage_mark, records_in, supplier_at, placed, suppliers_of}
use Rattle.tally.specs.Faults.{supplier_limit}
use Rattle.tally.specs.declared.Statement.{Statement}
use Rattle.tally.specs.Statement.{outcome_number, statement_of}
use Rattle.tally.specs.When.{Sound, BadAt, CrowdedAt, Faultless}
use Rattle.tally.proofs.Order.{by_order, placed_first, placed_same, placed_later, suppliers_next}
use Rattle.tally.proofs.Ways.{answer, stands, from_start, broken_here, crowded_here, sound_here, cut_there, whole_there}

-- no supplier goes when one more record is read
placed_longer : (s : ℕ) (l : List ℕ) → length l ≤ length (placed s l)
unfolding placed
placed_longer s [] = omega arith
placed_longer s (t ∷ ts) =
    by_order s t ts
    (λ q. omega (arith, ap length (placed_first s t ts q)))
    (λ q. omega (arith, ap length (placed_same s t ts q)))
    (λ q. omega (arith, ap length (placed_later s t ts q), placed_longer s ts))

pub suppliers_more : (file : List ℕ) (i : ℕ) → length (suppliers_of file i) ≤ length (suppliers_of file (suc i))
suppliers_more file i = omega (arith, ap length (suppliers_next file i), placed_longer (supplier_at file i) (suppliers_of file i))

pub suppliers_grow : (file : List ℕ) (i j : ℕ) → length (suppliers_of file i) ≤ length (suppliers_of file (i + j))
suppliers_grow file i zero = omega (arith, ap (λ (k : ℕ). length (suppliers_of file k)) (same i))
  where
    same : (k : ℕ) → k ≡ k + 0
    same k = omega arith
suppliers_grow file i (suc j) =
    omega (arith, suppliers_grow file i j, suppliers_more file (i + j), ap (λ (k : ℕ). length (suppliers_of file k)) (next i j))
  where
    next : (k m : ℕ) → suc (k + m) ≡ k + suc m
    next k m = omega arith

module _ (file : List ℕ) where
  sound_none : Sound file 0
  unfolding suppliers_of
  sound_none = record { marks = λ k h. absurd (never k h); few = omega arith }
    where
      never : (k : ℕ) → k < 0 → ⊥
      never k h = omega arith

  sound_less : (i : ℕ) → Sound file (suc i) → Sound file i
  sound_less i s = record { marks = λ k h. s.marks k (omega arith); few = omega (arith, s.few, suppliers_more file i) }

  sound_more : (i : ℕ) → Sound file i → is_marked usage_size usage_mark file i ≡ true → length (suppliers_of file (suc i)) ≤ supplier_limit → Sound file (suc i)
  sound_more i s m f = record {
    marks = λ k h. by_test_lem (ltb k i) (λ q. s.marks k (ltb-true k i q))
        (λ q. subst (λ (j : ℕ). is_marked usage_size usage_mark file j ≡ true) (le_antisymm (ltb-false k i q) (omega arith)) m);
    few = f;
  }

  -- as many suppliers as there are with record i
  with_one : (i : ℕ) → length (suppliers_of file (suc i)) ≡ length (suppliers_of file (i + 1))
  with_one i = ap (λ (k : ℕ). length (suppliers_of file k)) (sym (add-one i))

  -- records without a fault are passed
  pub passed : (i : ℕ) → i ≤ records_in file → Sound file i → statement_of file ≡ stands file i
  passed zero b s = from_start file
  passed (suc i) b s =
      passed i (omega arith) (sound_less i s)
      ∙ sound_here file i b (length (suppliers_of file (suc i))) (with_one i) (s.marks i (omega arith)) s.few
      ∙ ap (stands file) (add-one i)

  -- where each is given
  pub bad_where : (i : ℕ) → BadAt file i → statement_of file ≡ Err BadRecord
  bad_where i a =
      ⊎_elim
      (λ u. passed i (omega (arith, u.0)) a.sound ∙ broken_here file i u.0 u.1)
      (λ c. passed i (omega (arith, c.0)) a.sound ∙ cut_there file i (omega (arith, c.0)) c.1)
      a.bad

  pub crowded_where : (i : ℕ) → CrowdedAt file i → statement_of file ≡ Err TooManySuppliers
  crowded_where i a =
      passed i (omega (arith, a.within)) a.sound
      ∙ crowded_here file i a.within (length (suppliers_of file (suc i))) (with_one i) a.marked a.crowds

  pub stated_where : Faultless file → statement_of file ≡ answer file
  stated_where f = passed (records_in file) (omega arith) f.sound ∙ whole_there file (records_in file) (omega arith) f.whole

  -- one of the three holds
  abbrev pub Verdict : Type 0
  Verdict = ((i : ℕ) × BadAt file i) ⊎ (((i : ℕ) × CrowdedAt file i) ⊎ Faultless file)

  at_end : Sound file (records_in file) → Verdict
  at_end s =
      by_test_lem (eqb (length file % usage_size) 0)
      (λ q. inr (inr record { sound = s; whole = eqb-true (length file % usage_size) 0 q }))
      (λ q. inl (records_in file, record { sound = s; bad = inr (refl, eqb-false (length file % usage_size) 0 q) }))

  from : (n i : ℕ) → i + n ≡ records_in file → Sound file i → Verdict
  from zero i e s = at_end (subst (Sound file) (here i e) s)
    where
      here : (k : ℕ) → k + 0 ≡ records_in file → k ≡ records_in file
      here k q = omega arith
  from (suc n) i e s =
      by_test_lem (is_marked usage_size usage_mark file i)
      (λ m. by_test_lem (ltb supplier_limit (length (suppliers_of file (suc i))))
      (λ q. inr (inl (i, record { sound = s; within = omega arith; marked = m; crowds = ltb-true supplier_limit (length (suppliers_of file (suc i))) q })))
      (λ q. from n (suc i) (omega arith) (sound_more i s m (ltb-false supplier_limit (length (suppliers_of file (suc i))) q))))
      (λ m. inl (i, record { sound = s; bad = inl (omega arith, m) }))

  pub verdict : Verdict
  verdict = from (records_in file) 0 (omega arith) sound_none

  -- the number that each gives
  abbrev pub number : ℕ
  number = outcome_number (statement_of file)

  gives : {s : Result Statement Refusal} → statement_of file ≡ s → number ≡ outcome_number s
  gives e = ap outcome_number e

  -- no other number is given, and each only in its case
  pub by_number : {X : Type 0} → (((i : ℕ) × BadAt file i) → number ≡ 19 → X) → (((i : ℕ) × CrowdedAt file i) → number ≡ 20 → X) → (Faultless file → number ≡ 0 → X) → X
  by_number bad crowd fine =
      ⊎_elim (λ b. bad b (gives (bad_where b.0 b.1)))
      (λ o. ⊎_elim (λ c. crowd c (gives (crowded_where c.0 c.1))) (λ f. fine f (gives (stated_where f))) o)
      verdict

  -- a file has one number
  other : {X : Type 0} (m n : ℕ) → number ≡ m → number ≡ n → (m ≡ n → ⊥) → X
  other m n e f apart = absurd (apart (sym e ∙ f))

  pub bad_only : number ≡ 19 → (i : ℕ) × BadAt file i
  bad_only e = by_number (λ b q. b) (λ c q. other 19 20 e q (λ z. omega arith)) (λ f q. other 19 0 e q (λ z. omega arith))

  pub crowded_only : number ≡ 20 → (i : ℕ) × CrowdedAt file i
  crowded_only e = by_number (λ b q. other 20 19 e q (λ z. omega arith)) (λ c q. c) (λ f q. other 20 0 e q (λ z. omega arith))

  pub stated_only : number ≡ 0 → Faultless file
  stated_only e = by_number (λ b q. other 0 19 e q (λ z. omega arith)) (λ c q. other 0 20 e q (λ z. omega arith)) (λ f q. f)
