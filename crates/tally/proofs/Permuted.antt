-- Records in another order: the statement is the same. Assumes nothing.
use mathlib.Core.Path.{◌≡◌, refl, sym, ap, ap₂, ◌∙◌, subst}
use mathlib.Core.Bool.{Bool, true, false, cond, ◌&&◌}
use mathlib.Core.List.{List, [], ◌∷◌, ◌++◌, Permᴰ}
use Prim.Native.Nat.{ℕ, zero, suc, ◌+◌, ◌*◌, ◌%◌, ◌<◌}
use native.Mathlib.Nat.{le_antisymm}
use native.Mathlib.Omega.{arith}
use lib.Dec.{ltb, eqb}
use lib.ListN.{length, get_or, drop, length-append}
use lib.Seq.{get_or-take, get_or-drop}
use borrow.Author.Tests.{ltb-true, ltb-false}
use Rattle.bits.proofs.Tests.{by_test_lem, and_both, and_first, and_second}
use Rattle.std.specs.Prelude.{Ok, Err}
use Rattle.refusal.specs.declared.Refusal.TheVariants.{TooManySuppliers}
use Rattle.records.specs.Records.{begins, is_marked}
use Rattle.tally.specs.declared.Line.{Line}
use Rattle.tally.specs.Usage.{usage_size, usage_mark, records_in, supplier_at, count_of, lines_of}
use Rattle.tally.specs.Faults.{supplier_limit}
use Rattle.tally.specs.Statement.{stated, statement_of}
use Rattle.tally.specs.Merging.{record_at, records_of, supplier_in, naming}
use Rattle.tally.proofs.Alike.{Alike, same_supplier, same_mark}
use Rattle.tally.proofs.Same.{same_lines}
use Rattle.tally.proofs.Merge.{Fit, fit_lines}

-- record i, taken out of its file, is what stands there
as_there : (file : List ℕ) (i : ℕ) → Alike (record_at file i) 0 file (usage_size * i)
as_there file i k l =
    ap (λ (n : ℕ). get_or (record_at file i) n 0) none
    ∙ get_or-take usage_size (drop (usage_size * i) file) k 0 l
    ∙ get_or-drop (usage_size * i) file k 0
  where
    none : 0 + k ≡ k
    none = omega arith

-- it names the supplier of record i, and begins as it does
pub supplier_of : (file : List ℕ) (i : ℕ) → supplier_in (record_at file i) ≡ supplier_at file i
supplier_of file i = same_supplier (record_at file i) file 0 (usage_size * i) (as_there file i)

mark_of : (file : List ℕ) (i : ℕ) → begins usage_mark (record_at file i) 0 ≡ is_marked usage_size usage_mark file i
mark_of file i = same_mark (record_at file i) file 0 (usage_size * i) (as_there file i)

-- how many of two lists name a supplier
naming_both : (s : ℕ) (a b : List (List ℕ)) → naming s (a ++ b) ≡ naming s a + naming s b
naming_both s [] b = nothing (naming s b)
  where
    nothing : (k : ℕ) → k ≡ 0 + k
    nothing k = omega arith
naming_both s (r ∷ rs) b = ap (λ (k : ℕ). cond (eqb (supplier_in r) s) (suc k) k) (naming_both s rs b) ∙ turn (eqb (supplier_in r) s)
  where
    turn : (t : Bool) → cond t (suc (naming s rs + naming s b)) (naming s rs + naming s b) ≡ cond t (suc (naming s rs)) (naming s rs) + naming s b
    turn true = omega arith
    turn false = refl

-- a count is the number of records that name the supplier
pub count_naming : (file : List ℕ) (n s : ℕ) → count_of file n s ≡ naming s (records_of file n)
unfolding count_of records_of
count_naming file zero s = refl
count_naming file (suc n) s =
    ap₂ (λ (x k : ℕ). cond (eqb x s) (suc k) k) (sym (supplier_of file n)) (count_naming file n s)
    ∙ turn (eqb (supplier_in (record_at file n)) s)
    ∙ sym (naming_both s (records_of file n) (record_at file n ∷ []))
  where
    turn : (t : Bool) → cond t (suc (naming s (records_of file n))) (naming s (records_of file n)) ≡ naming s (records_of file n) + cond t (suc 0) 0
    turn true = omega arith
    turn false = omega arith

pub records_length : (file : List ℕ) (n : ℕ) → length (records_of file n) ≡ n
unfolding records_of
records_length file zero = refl
records_length file (suc n) = length-append (records_of file n) (record_at file n ∷ []) ∙ ap (λ (k : ℕ). k + 1) (records_length file n) ∙ omega arith

-- every record begins with the mark
unfoldable all_begin : List (List ℕ) → Bool
all_begin [] = true
all_begin (r ∷ rs) = begins usage_mark r 0 && all_begin rs

and_group : (a b c : Bool) → ((a && b) && c) ≡ (a && (b && c))
and_group true b c = refl
and_group false b c = refl

begin_both : (a b : List (List ℕ)) → all_begin (a ++ b) ≡ (all_begin a && all_begin b)
unfolding all_begin
begin_both [] b = refl
begin_both (r ∷ rs) b = ap (λ (t : Bool). begins usage_mark r 0 && t) (begin_both rs b) ∙ sym (and_group (begins usage_mark r 0) (all_begin rs) (all_begin b))

begin_next : (file : List ℕ) (n : ℕ) → all_begin (records_of file (suc n)) ≡ (all_begin (records_of file n) && is_marked usage_size usage_mark file n)
unfolding all_begin records_of
begin_next file n =
    begin_both (records_of file n) (record_at file n ∷ [])
    ∙ ap (λ (t : Bool). all_begin (records_of file n) && t) (alone (begins usage_mark (record_at file n) 0) ∙ mark_of file n)
  where
    alone : (t : Bool) → (t && true) ≡ t
    alone true = refl
    alone false = refl

marks_begin : (file : List ℕ) (n : ℕ) → ((k : ℕ) → k < n → is_marked usage_size usage_mark file k ≡ true) → all_begin (records_of file n) ≡ true
unfolding all_begin records_of
marks_begin file zero h = refl
marks_begin file (suc n) h =
    begin_next file n ∙ and_both (all_begin (records_of file n)) (is_marked usage_size usage_mark file n) (marks_begin file n (λ k b. h k (omega arith))) (h n (omega arith))

begin_marks : (file : List ℕ) (n : ℕ) → all_begin (records_of file n) ≡ true → (k : ℕ) → k < n → is_marked usage_size usage_mark file k ≡ true
begin_marks file zero e k b = absurd (never b)
  where
    never : k < 0 → ⊥
    never h = omega arith
begin_marks file (suc n) e k b =
    let all = sym (begin_next file n) ∙ e in
    by_test_lem (ltb k n)
    (λ q. begin_marks file n (and_first (all_begin (records_of file n)) (is_marked usage_size usage_mark file n) all) k (ltb-true k n q))
    (λ q. subst (λ (j : ℕ). is_marked usage_size usage_mark file j ≡ true) (le_antisymm (ltb-false k n q) (omega arith))
    (and_second (all_begin (records_of file n)) (is_marked usage_size usage_mark file n) all))

-- what another order leaves as it is
perm_naming : (s : ℕ) {a b : List (List ℕ)} → Permᴰ a b → naming s a ≡ naming s b
perm_naming s Permᴰ.nil = refl
perm_naming s (Permᴰ.cons e p) = ap₂ (λ (r : List ℕ) (k : ℕ). cond (eqb (supplier_in r) s) (suc k) k) e (perm_naming s p)
perm_naming s (Permᴰ.swap {a = x} {b = y} {a' = x'} {b' = y'} {l = l} e f) =
    ap₂ (λ (u v : List ℕ). cond (eqb (supplier_in u) s) (suc (cond (eqb (supplier_in v) s) (suc (naming s l)) (naming s l))) (cond (eqb (supplier_in v) s) (suc (naming s l)) (naming s l))) e f
    ∙ exchanged (eqb (supplier_in y') s) (eqb (supplier_in x') s) (naming s l)
  where
    exchanged : (t u : Bool) (k : ℕ) → cond t (suc (cond u (suc k) k)) (cond u (suc k) k) ≡ cond u (suc (cond t (suc k) k)) (cond t (suc k) k)
    exchanged true true k = refl
    exchanged true false k = refl
    exchanged false true k = refl
    exchanged false false k = refl
perm_naming s (Permᴰ.trans p q) = perm_naming s p ∙ perm_naming s q

perm_begin : {a b : List (List ℕ)} → Permᴰ a b → all_begin a ≡ all_begin b
unfolding all_begin
perm_begin Permᴰ.nil = refl
perm_begin (Permᴰ.cons e p) = ap₂ (λ (r : List ℕ) (t : Bool). begins usage_mark r 0 && t) e (perm_begin p)
perm_begin (Permᴰ.swap {a = x} {b = y} {a' = x'} {b' = y'} {l = l} e f) =
    ap₂ (λ (u v : List ℕ). begins usage_mark u 0 && (begins usage_mark v 0 && all_begin l)) e f
    ∙ exchanged (begins usage_mark y' 0) (begins usage_mark x' 0) (all_begin l)
  where
    exchanged : (t u v : Bool) → (t && (u && v)) ≡ (u && (t && v))
    exchanged true true v = refl
    exchanged true false v = refl
    exchanged false true v = refl
    exchanged false false v = refl
perm_begin (Permᴰ.trans p q) = perm_begin p ∙ perm_begin q

perm_length : {a b : List (List ℕ)} → Permᴰ a b → length a ≡ length b
perm_length Permᴰ.nil = refl
perm_length (Permᴰ.cons e p) = ap suc (perm_length p)
perm_length (Permᴰ.swap e f) = refl
perm_length (Permᴰ.trans p q) = perm_length p ∙ perm_length q

-- the statement of a file and of the same records in another order
module _ (f g : List ℕ) (fit : Fit f) (whole : length g % usage_size ≡ 0) (p : Permᴰ (records_of f (records_in f)) (records_of g (records_in g))) where
  same_many : records_in f ≡ records_in g
  same_many = sym (records_length f (records_in f)) ∙ perm_length p ∙ records_length g (records_in g)

  fit_too : Fit g
  fit_too = record { marks = begin_marks g (records_in g) (sym (perm_begin p) ∙ marks_begin f (records_in f) fit.marks); whole = whole }

  lines_too : lines_of f (records_in f) ≡ lines_of g (records_in g)
  lines_too = same_lines f g (records_in f) (records_in g) (λ s. count_naming f (records_in f) s ∙ perm_naming s p ∙ sym (count_naming g (records_in g) s))

  pub permuted : statement_of f ≡ statement_of g
  permuted =
      fit_lines f fit
      ∙ ap₂ (λ (l : List Line) (n : ℕ). cond (ltb supplier_limit (length l)) (Err TooManySuppliers) (Ok (stated l n))) lines_too same_many
      ∙ sym (fit_lines g fit_too)
