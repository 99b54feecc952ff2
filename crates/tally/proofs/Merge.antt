-- Two usage files put together: the statement is the two statements merged. Assumes nothing.
use mathlib.Core.Path.{◌≡◌, refl, sym, ap, ap₂, ◌∙◌}
use mathlib.Core.Bool.{Bool, true, false, cond, ◌||◌, true≢false}
use mathlib.Core.Logic.{⊎_elim}
use mathlib.Core.List.{List, [], ◌∷◌, ◌++◌, map}
use Prim.Native.Nat.{ℕ, zero, suc, ◌+◌, ◌-◌, ◌*◌, ◌/◌, ◌%◌, ◌≤◌, ◌<◌}
use native.Mathlib.Nat.{le_antisymm}
use native.Mathlib.Omega.{arith}
use lib.Dec.{ltb, eqb}
use lib.ListN.{length, get_or, length-append, length-map, get_or-append}
use lib.Seq.{get_or-append-add}
use borrow.Author.Tests.{lt-ltb, le-ltb, ltb-true, ltb-false, eqb-true}
use Rattle.bits.proofs.Tests.{by_test_lem}
use Rattle.std.specs.Prelude.{Ok, Err}
use Rattle.refusal.specs.declared.Refusal.TheVariants.{TooManySuppliers}
use Rattle.records.specs.Records.{is_marked}
use Rattle.tally.specs.declared.Line.{Line}
use Rattle.tally.specs.Usage.{usage_size, usage_mark, records_in, supplier_at, suppliers_of, count_of, line_of, lines_of}
use Rattle.tally.specs.Faults.{supplier_limit}
use Rattle.tally.specs.Statement.{stated, statement_of}
use Rattle.tally.specs.Merging.{count_in, both, merged}
use Rattle.tally.specs.When.{BadAt, CrowdedAt, Faultless}
use Rattle.tally.proofs.Alike.{Alike, same_supplier, same_mark}
use Rattle.tally.proofs.Order.{Rises, placed_rises, suppliers_rise}
use Rattle.tally.proofs.Ways.{answer, suppliers_of_lines}
use Rattle.tally.proofs.Exactly.{suppliers_grow, verdict, crowded_where, stated_where}
use Rattle.tally.proofs.Same.{has, has_placed, has_suppliers, same_numbers}

module _ (a b : List ℕ) (whole : length a % usage_size ≡ 0) where
  -- the records of the first file, then those of the second
  pub records_both : records_in (a ++ b) ≡ records_in a + records_in b
  records_both = ap (λ (k : ℕ). k / usage_size) (length-append a b) ∙ omega arith

  first_part : (i : ℕ) → i < records_in a → Alike (a ++ b) (usage_size * i) a (usage_size * i)
  first_part i h k l = get_or-append a b 0 (usage_size * i + k) (omega arith)

  second_part : (j : ℕ) → Alike (a ++ b) (usage_size * (records_in a + j)) b (usage_size * j)
  second_part j k l = ap (λ (n : ℕ). get_or (a ++ b) n 0) here ∙ get_or-append-add a b (usage_size * j + k) 0
    where
      here : usage_size * (records_in a + j) + k ≡ length a + (usage_size * j + k)
      here = omega arith

  -- counts are added
  count_first : (n s : ℕ) → n ≤ records_in a → count_of (a ++ b) n s ≡ count_of a n s
  unfolding count_of
  count_first zero s h = refl
  count_first (suc n) s h =
      ap₂ (λ (x k : ℕ). cond (eqb x s) (suc k) k) (same_supplier (a ++ b) a (usage_size * n) (usage_size * n) (first_part n (omega arith))) (count_first n s (omega arith))

  pub count_both : (n s : ℕ) → count_of (a ++ b) (records_in a + n) s ≡ count_of a (records_in a) s + count_of b n s
  unfolding count_of
  count_both zero s = ap (λ (k : ℕ). count_of (a ++ b) k s) none ∙ count_first (records_in a) s (omega arith) ∙ nothing
    where
      none : records_in a + 0 ≡ records_in a
      none = omega arith

      nothing : count_of a (records_in a) s ≡ count_of a (records_in a) s + 0
      nothing = omega arith
  count_both (suc n) s =
      ap (λ (k : ℕ). count_of (a ++ b) k s) next
      ∙ ap₂ (λ (x k : ℕ). cond (eqb x s) (suc k) k) (same_supplier (a ++ b) b (usage_size * (records_in a + n)) (usage_size * n) (second_part n)) (count_both n s)
      ∙ turn (eqb (supplier_at b n) s) (count_of a (records_in a) s) (count_of b n s)
    where
      next : records_in a + suc n ≡ suc (records_in a + n)
      next = omega arith

      turn : (t : Bool) (j k : ℕ) → cond t (suc (j + k)) (j + k) ≡ j + cond t (suc k) k
      turn true j k = omega arith
      turn false j k = refl

-- the count that a statement has of a supplier
has_count : (file : List ℕ) (n s : ℕ) (l : List ℕ) → count_in (map (line_of file n) l) s ≡ cond (has s l) (count_of file n s) 0
has_count file n s [] = refl
has_count file n s (t ∷ ts) =
    by_test_lem (eqb t s)
    (λ q. ap (λ (b : Bool). cond b (count_of file n t) (count_in (map (line_of file n) ts) s)) q ∙ ap (count_of file n) (eqb-true t s q) ∙ sym (ap (λ (b : Bool). cond (b || has s ts) (count_of file n s) 0) q))
    (λ q. ap (λ (b : Bool). cond b (count_of file n t) (count_in (map (line_of file n) ts) s)) q ∙ has_count file n s ts ∙ sym (ap (λ (b : Bool). cond (b || has s ts) (count_of file n s) 0) q))

pub line_count : (file : List ℕ) (n s : ℕ) → count_in (lines_of file n) s ≡ count_of file n s
line_count file n s = has_count file n s (suppliers_of file n) ∙ ap (λ (b : Bool). cond b (count_of file n s) 0) (has_suppliers file n s) ∙ some (count_of file n s)
  where
    some : (k : ℕ) → cond (ltb 0 k) k 0 ≡ k
    some k =
        by_test_lem (ltb 0 k) (λ q. ap (λ (b : Bool). cond b k 0) q)
        (λ q. ap (λ (b : Bool). cond b k 0) q ∙ le_antisymm (omega arith) (ltb-false 0 k q))

-- the suppliers of both
has_both : (s : ℕ) (l m : List ℕ) → has s (both l m) ≡ (has s l || has s m)
has_both s [] m = refl
has_both s (t ∷ ts) m = has_placed s t (both ts m) ∙ ap (λ (b : Bool). eqb t s || b) (has_both s ts m) ∙ group (eqb t s) (has s ts) (has s m)
  where
    group : (x y z : Bool) → (x || (y || z)) ≡ ((x || y) || z)
    group true y z = refl
    group false y z = refl

both_rise : (l m : List ℕ) → Rises m → Rises (both l m)
both_rise [] m r = r
both_rise (t ∷ ts) m r = placed_rises t (both ts m) (both_rise ts m r)

some_of_both : (j k : ℕ) → ltb 0 (j + k) ≡ (ltb 0 j || ltb 0 k)
some_of_both j k =
    by_test_lem (ltb 0 j)
    (λ q. lt-ltb 0 (j + k) (omega (arith, ltb-true 0 j q)) ∙ sym (ap (λ (b : Bool). b || ltb 0 k) q))
    (λ q. ap (λ (i : ℕ). ltb 0 i) (none (ltb-false 0 j q)) ∙ sym (ap (λ (b : Bool). b || ltb 0 k) q))
  where
    none : j ≤ 0 → j + k ≡ k
    none h = omega arith

-- a file of whole records, each of which begins with the mark
pub record Fit (file : List ℕ) : Type 0 where
  pub marks : (k : ℕ) → k < records_in file → is_marked usage_size usage_mark file k ≡ true
  pub whole : length file % usage_size ≡ 0

pub faultless_fit : (file : List ℕ) → Faultless file → Fit file
faultless_fit file f = record { marks = f.sound.marks; whole = f.whole }

-- it is refused with 20 where it names too many suppliers, and for nothing else
pub fit_statement : (file : List ℕ) → Fit file
    → statement_of file ≡ cond (ltb supplier_limit (length (suppliers_of file (records_in file)))) (Err TooManySuppliers) (answer file)
fit_statement file f = ⊎_elim (λ b. absurd (fits b.0 b.1)) (λ o. ⊎_elim crowds fine o) (verdict file)
  where
    fits : (i : ℕ) → BadAt file i → ⊥
    fits i b = ⊎_elim (λ u. true≢false (sym (f.marks i u.0) ∙ u.1)) (λ c. c.1 f.whole) b.bad

    chosen : (b : Bool) → ltb supplier_limit (length (suppliers_of file (records_in file))) ≡ b
        → cond b (Err TooManySuppliers) (answer file) ≡ cond (ltb supplier_limit (length (suppliers_of file (records_in file)))) (Err TooManySuppliers) (answer file)
    chosen b q = ap (λ (t : Bool). cond t (Err TooManySuppliers) (answer file)) (sym q)

    crowds : ((i : ℕ) × CrowdedAt file i) → statement_of file ≡ cond (ltb supplier_limit (length (suppliers_of file (records_in file)))) (Err TooManySuppliers) (answer file)
    crowds c =
        let i = c.0 in
        let end : suc i + (records_in file - suc i) ≡ records_in file = omega (arith, c.1.within) in
        crowded_where file i c.1
        ∙ chosen true (lt-ltb supplier_limit (length (suppliers_of file (records_in file)))
        (omega (arith, c.1.crowds, suppliers_grow file (suc i) (records_in file - suc i), ap (λ (k : ℕ). length (suppliers_of file k)) end)))

    fine : Faultless file → statement_of file ≡ cond (ltb supplier_limit (length (suppliers_of file (records_in file)))) (Err TooManySuppliers) (answer file)
    fine g = stated_where file g ∙ chosen false (le-ltb supplier_limit (length (suppliers_of file (records_in file))) g.sound.few)

-- the same by its lines
pub fit_lines : (file : List ℕ) → Fit file
    → let lines = lines_of file (records_in file) in
    statement_of file ≡ cond (ltb supplier_limit (length lines)) (Err TooManySuppliers) (Ok (stated lines (records_in file)))
fit_lines file h =
    fit_statement file h
    ∙ ap (λ (k : ℕ). cond (ltb supplier_limit k) (Err TooManySuppliers) (answer file)) (sym (length-map (suppliers_of file (records_in file)) (line_of file (records_in file))))

module _ (a b : List ℕ) (fa : Fit a) (fb : Fit b) where
  pub fit_both : Fit (a ++ b)
  fit_both = record {
    marks = λ k h. by_test_lem (ltb k (records_in a))
        (λ q. same_mark (a ++ b) a (usage_size * k) (usage_size * k) (first_part a b fa.whole k (ltb-true k (records_in a) q)) ∙ fa.marks k (ltb-true k (records_in a) q))
        (λ q. second k h (ltb-false k (records_in a) q));
    whole = ap (λ (k : ℕ). k % usage_size) (length-append a b) ∙ omega (arith, fa.whole, fb.whole);
  }
    where
      second : (k : ℕ) → k < records_in (a ++ b) → records_in a ≤ k → is_marked usage_size usage_mark (a ++ b) k ≡ true
      second k h g =
          let j : k ≡ records_in a + (k - records_in a) = omega arith in
          ap (is_marked usage_size usage_mark (a ++ b)) j ∙ same_mark (a ++ b) b (usage_size * (records_in a + (k - records_in a))) (usage_size * (k - records_in a)) (second_part a b fa.whole (k - records_in a))
          ∙ fb.marks (k - records_in a) (omega (arith, records_both a b fa.whole))

  -- the suppliers of the whole are those of the parts
  suppliers_both : suppliers_of (a ++ b) (records_in a + records_in b) ≡ both (suppliers_of a (records_in a)) (suppliers_of b (records_in b))
  suppliers_both =
      same_numbers (suppliers_of (a ++ b) (records_in a + records_in b)) (both (suppliers_of a (records_in a)) (suppliers_of b (records_in b)))
      (suppliers_rise (a ++ b) (records_in a + records_in b)) (both_rise (suppliers_of a (records_in a)) (suppliers_of b (records_in b)) (suppliers_rise b (records_in b)))
      (λ s. has_suppliers (a ++ b) (records_in a + records_in b) s ∙ ap (ltb 0) (count_both a b fa.whole (records_in b) s) ∙ some_of_both (count_of a (records_in a) s) (count_of b (records_in b) s)
      ∙ sym (has_both s (suppliers_of a (records_in a)) (suppliers_of b (records_in b)) ∙ ap₂ ◌||◌ (has_suppliers a (records_in a) s) (has_suppliers b (records_in b) s)))

  lines_both : lines_of (a ++ b) (records_in a + records_in b) ≡ merged (lines_of a (records_in a)) (lines_of b (records_in b))
  lines_both =
      ap (map (line_of (a ++ b) (records_in a + records_in b))) suppliers_both
      ∙ ap₂ (λ (l m : List ℕ). map (line_of (a ++ b) (records_in a + records_in b)) (both l m)) (sym (suppliers_of_lines a (records_in a) (suppliers_of a (records_in a))))
      (sym (suppliers_of_lines b (records_in b) (suppliers_of b (records_in b))))
      ∙ counts (both (map (λ (l : Line). l.supplier) (lines_of a (records_in a))) (map (λ (l : Line). l.supplier) (lines_of b (records_in b))))
    where
      counts : (l : List ℕ) → map (line_of (a ++ b) (records_in a + records_in b)) l
          ≡ map (λ (s : ℕ). record { supplier = s; count = count_in (lines_of a (records_in a)) s + count_in (lines_of b (records_in b)) s }) l
      counts [] = refl
      counts (s ∷ ss) =
          ap₂ (λ (k : ℕ) (t : List Line). record { supplier = s; count = k } ∷ t)
          (count_both a b fa.whole (records_in b) s ∙ ap₂ ◌+◌ (sym (line_count a (records_in a) s)) (sym (line_count b (records_in b) s))) (counts ss)

  -- the merge law
  pub merge_law : let lines = merged (lines_of a (records_in a)) (lines_of b (records_in b)) in
      statement_of (a ++ b) ≡ cond (ltb supplier_limit (length lines)) (Err TooManySuppliers) (Ok (stated lines (records_in a + records_in b)))
  merge_law =
      fit_lines (a ++ b) fit_both
      ∙ ap (λ (n : ℕ). cond (ltb supplier_limit (length (lines_of (a ++ b) n))) (Err TooManySuppliers) (Ok (stated (lines_of (a ++ b) n) n))) (records_both a b fa.whole)
      ∙ ap (λ (l : List Line). cond (ltb supplier_limit (length l)) (Err TooManySuppliers) (Ok (stated l (records_in a + records_in b)))) lines_both
