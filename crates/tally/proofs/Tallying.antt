-- The lines of a tally when one record more is counted. Assumes nothing.
use mathlib.Core.Path.{◌≡◌, refl, sym, ap, ap₂, ◌∙◌, subst}
use mathlib.Core.List.{List, [], ◌∷◌, ◌++◌, map, append_assoc}
use Prim.Native.Nat.{ℕ, zero, suc, ◌+◌, ◌-◌, ◌≤◌, ◌<◌}
use native.Mathlib.Nat.{le_antisymm}
use native.Mathlib.Numerals.{add-one}
use native.Mathlib.Omega.{arith}
use lib.Dec.{ltb}
use lib.ListN.{length, get_or, take, drop, set, replicate, length-append, length-replicate, length-map, length-set, length-drop, get_or-append}
use lib.Seq.{take-append-le, take_at, get_or-take, drop-append-add, set-append_left, length-take-le}
use borrow.Author.Tests.{ltb-true, ltb-false}
use Rattle.bits.proofs.Tests.{by_test_lem}
use Rattle.tally.specs.declared.Line.{Line}
use Rattle.tally.specs.Usage.{supplier_at, suppliers_of, count_of, line_of, lines_of}
use Rattle.tally.specs.Faults.{supplier_limit}
use Rattle.tally.specs.Statement.{no_line, padded}
use Rattle.tally.specs.Steps.{supplier_on, Rising, Place, put_in, Tallied}
use Rattle.tally.proofs.Order.{none_below, suppliers_next, suppliers_rise, rises_at, placed_there, placed_new}
use Rattle.tally.proofs.Counts.{Apart, apart_at, counted_one, counted_other, never_named, count_least, counts_there, counts_new}

pub length_padded : (l : List Line) → length l ≤ supplier_limit → length (padded l) ≡ supplier_limit
length_padded l h =
    length-append l (replicate (supplier_limit - length l) no_line)
    ∙ ap (λ (k : ℕ). length l + k) (length-replicate (supplier_limit - length l) no_line)
    ∙ omega arith

pub get_d_padded : (l : List Line) (k : ℕ) → k < length l → get_or (padded l) k no_line ≡ get_or l k no_line
get_d_padded l k h = get_or-append l (replicate (supplier_limit - length l) no_line) no_line k h

pub get_d_mapped : (f : ℕ → ℕ) (l : List ℕ) (k : ℕ) → k < length l → get_or (map f l) k 0 ≡ f (get_or l k 0)
get_d_mapped f [] k h = none_below k h
get_d_mapped f (y ∷ ys) zero h = refl
get_d_mapped f (y ∷ ys) (suc k) h = get_d_mapped f ys k (omega arith)

line_mapped : (f : ℕ → Line) (l : List ℕ) (k : ℕ) → k < length l → get_or (map f l) k no_line ≡ f (get_or l k 0)
line_mapped f [] k h = none_below k h
line_mapped f (y ∷ ys) zero h = refl
line_mapped f (y ∷ ys) (suc k) h = line_mapped f ys k (omega arith)

-- one line of a padded list changed
set_padded : (l : List Line) (p : ℕ) (v : Line) → p < length l → set (padded l) p v ≡ padded (set l p v)
set_padded l p v h =
    set-append_left l (replicate (supplier_limit - length l) no_line) p v h
    ∙ ap (λ (k : ℕ). set l p v ++ replicate (supplier_limit - k) no_line) (sym (length-set l p v))

-- one more put in
length_put : {A : Type 0} (l : List A) (p : ℕ) (v : A) → p ≤ length l → length (take p l ++ (v ∷ drop p l)) ≡ suc (length l)
length_put l p v h = omega (arith, length-append (take p l) (v ∷ drop p l), length-take-le p l h, length-drop p l)

put_padded : (l : List Line) (n p : ℕ) (v : Line) → n ≡ length l → p ≤ n → n < supplier_limit → put_in (padded l) n p v ≡ padded (take p l ++ (v ∷ drop p l))
put_padded l n p v e h r =
    ap₂ (λ (s t : List Line). s ++ (v ∷ t)) (take-append-le p l zeros (omega arith))
    (ap₂ ◌++◌ (ap (drop p) (take_at l zeros n (sym e))) past)
    ∙ sym (append_assoc (take p l) (v ∷ drop p l) (replicate (supplier_limit - suc n) no_line))
    ∙ ap (λ (k : ℕ). (take p l ++ (v ∷ drop p l)) ++ replicate (supplier_limit - k) no_line) (ap suc e ∙ sym (length_put l p v (omega arith)))
  where
    zeros : List Line
    zeros = replicate (supplier_limit - length l) no_line

    one_fewer : supplier_limit - length l ≡ suc (supplier_limit - suc n)
    one_fewer = omega arith

    at_end : suc n ≡ length l + 1
    at_end = omega arith

    past : drop (suc n) (l ++ zeros) ≡ replicate (supplier_limit - suc n) no_line
    past =
        ap (λ (k : ℕ). drop k (l ++ zeros)) at_end
        ∙ drop-append-add l zeros 1
        ∙ ap (λ (k : ℕ). drop 1 (replicate k no_line)) one_fewer

module _ (file : List ℕ) (n : ℕ) (lines : List Line) (known : ℕ) (h : Tallied file n lines known) where
  many_lines : length (lines_of file n) ≡ known
  many_lines = length-map (suppliers_of file n) (line_of file n) ∙ sym h.many

  -- what stands at a place of a known supplier, among all lines and among the known ones
  line_here : (k : ℕ) → k < known → get_or lines k no_line ≡ line_of file n (get_or (suppliers_of file n) k 0)
  line_here k b =
      ap (λ (t : List Line). get_or t k no_line) h.held
      ∙ get_d_padded (lines_of file n) k (omega (arith, many_lines))
      ∙ line_mapped (line_of file n) (suppliers_of file n) k (omega (arith, h.many))

  here : (k : ℕ) → k < known → supplier_on lines k ≡ get_or (suppliers_of file n) k 0
  here k b = ap (λ (l : Line). l.supplier) (line_here k b)

  there : (k : ℕ) → k < known → supplier_on (take known lines) k ≡ get_or (suppliers_of file n) k 0
  there k b = ap (λ (l : Line). l.supplier) (get_or-take known lines k no_line b) ∙ here k b

  pub tallied_places : length lines ≡ supplier_limit
  tallied_places = ap length h.held ∙ length_padded (lines_of file n) (omega (arith, many_lines, h.few))

  taken : length (take known lines) ≡ known
  taken = length-take-le known lines (omega (arith, tallied_places, h.few))

  pub tallied_rising : Rising (take known lines)
  tallied_rising i j a b =
      let c : j < known = omega (arith, taken) in
      omega (arith, there i (omega arith), there j c, rises_at (suppliers_of file n) i j (suppliers_rise file n) a (omega (arith, h.many)))

  -- the count of a known supplier
  pub tallied_count : (p : ℕ) → p < known → (get_or lines p no_line).count ≡ count_of file n (supplier_on lines p)
  tallied_count p b = ap (λ (l : Line). l.count) (line_here p b) ∙ ap (count_of file n) (sym (here p b))

  pub tallied_most : (p : ℕ) → p < known → (get_or lines p no_line).count ≤ n
  tallied_most p b = omega (arith, tallied_count p b, count_least file n (supplier_on lines p))

  -- the line of another supplier is the same after this record
  others : (s : ℕ) → (supplier_at file n ≡ s → ⊥) → line_of file (suc n) s ≡ line_of file n s
  others s e = ap (λ (k : ℕ). record { supplier = s; count = k }) (counted_other file n s e)

  -- a known supplier named again
  pub tallied_again : (p : ℕ) → p < known → supplier_on lines p ≡ supplier_at file n
      → Tallied file (n + 1) (set lines p (record { supplier = supplier_on lines p; count = (get_or lines p no_line).count + 1 })) known
  tallied_again p b e =
      subst (λ (m : ℕ). Tallied file m (set lines p (record { supplier = supplier_on lines p; count = (get_or lines p no_line).count + 1 })) known) (sym (add-one n)) next
    where
      named : get_or (suppliers_of file n) p 0 ≡ supplier_at file n
      named = sym (here p b) ∙ e

      same : suppliers_of file (suc n) ≡ suppliers_of file n
      same = suppliers_next file n ∙ placed_there (supplier_at file n) (suppliers_of file n) p (suppliers_rise file n) (omega (arith, h.many)) named

      one_more : (get_or lines p no_line).count + 1 ≡ count_of file (suc n) (supplier_at file n)
      one_more =
          add-one (get_or lines p no_line).count
          ∙ ap suc (tallied_count p b ∙ ap (count_of file n) e)
          ∙ sym (counted_one file n)

      next : Tallied file (suc n) (set lines p (record { supplier = supplier_on lines p; count = (get_or lines p no_line).count + 1 })) known
      next = record {
        few = h.few;
        many = h.many ∙ ap length (sym same);
        held =
            ap₂ (λ (t : List Line) (v : Line). set t p v) h.held (ap₂ (λ (s k : ℕ). record { supplier = s; count = k }) e one_more)
            ∙ set_padded (lines_of file n) p (line_of file (suc n) (supplier_at file n)) (omega (arith, many_lines))
            ∙ ap padded
            (sym (counts_there (supplier_at file n) (line_of file n) (line_of file (suc n)) others (suppliers_of file n) p (suppliers_rise file n) (omega (arith, h.many)) named)
            ∙ ap (map (line_of file (suc n))) (sym same));
      }

  -- one who is new, at his place
  module _ (p : ℕ) (place : Place (take known lines) (supplier_at file n) p) (new : p < known → supplier_on lines p ≡ supplier_at file n → ⊥) where
    within : p ≤ known
    within = omega (arith, place.within, taken)

    low : (k : ℕ) → k < p → get_or (suppliers_of file n) k 0 < supplier_at file n
    low k a = omega (arith, there k (omega (arith, within)), place.below k a)

    high : (k : ℕ) → p ≤ k → k < length (suppliers_of file n) → supplier_at file n ≤ get_or (suppliers_of file n) k 0
    high k a b = omega (arith, there k (omega (arith, h.many)), place.beyond k a (omega (arith, taken, h.many)))

    beyond : (k : ℕ) → p ≤ k → k < length (suppliers_of file n) → supplier_at file n < get_or (suppliers_of file n) k 0
    beyond k a b =
        by_test_lem (ltb p k)
        (λ q. omega (
          arith,
          high p (omega arith) (omega (arith, ltb-true p k q)),
          rises_at (suppliers_of file n) p k (suppliers_rise file n) (ltb-true p k q) b,
        ))
        (λ q. at_p (ltb-false p k q))
      where
        at_p : k ≤ p → supplier_at file n < get_or (suppliers_of file n) k 0
        at_p c =
            let e : k ≡ p = le_antisymm c a in
            by_test_lem (ltb (supplier_at file n) (get_or (suppliers_of file n) k 0)) (λ q. ltb-true (supplier_at file n) (get_or (suppliers_of file n) k 0) q)
            (λ q. absurd (new (omega (arith, h.many))
            (here p (omega (arith, h.many)) ∙ ap (λ (j : ℕ). get_or (suppliers_of file n) j 0) (sym e)
            ∙ le_antisymm (ltb-false (supplier_at file n) (get_or (suppliers_of file n) k 0) q) (high k a b))))

    put : suppliers_of file (suc n) ≡ take p (suppliers_of file n) ++ (supplier_at file n ∷ drop p (suppliers_of file n))
    put = suppliers_next file n ∙ placed_new (supplier_at file n) (suppliers_of file n) p (omega (arith, within, h.many)) low beyond

    pub tallied_more : known + 1 ≡ length (suppliers_of file (n + 1))
    tallied_more =
        add-one known ∙ ap suc h.many ∙ sym (length_put (suppliers_of file n) p (supplier_at file n) (omega (arith, within, h.many)))
        ∙ ap length (sym put) ∙ ap (λ (m : ℕ). length (suppliers_of file m)) (sym (add-one n))

    apart : Apart (supplier_at file n) (suppliers_of file n)
    apart =
        apart_at (supplier_at file n) (suppliers_of file n)
        (λ k b e. by_test_lem (ltb k p) (λ q. omega (arith, low k (ltb-true k p q))) (λ q. omega (arith, beyond k (ltb-false k p q) b)))

    pub tallied_new : known < supplier_limit → Tallied file (n + 1) (put_in lines known p (record { supplier = supplier_at file n; count = 1 })) (known + 1)
    tallied_new r =
        subst (λ (m : ℕ). Tallied file m (put_in lines known p (record { supplier = supplier_at file n; count = 1 })) (known + 1)) (sym (add-one n)) next
      where
        first : 1 ≡ count_of file (suc n) (supplier_at file n)
        first = ap suc (sym (never_named file n (supplier_at file n) apart)) ∙ sym (counted_one file n)

        next : Tallied file (suc n) (put_in lines known p (record { supplier = supplier_at file n; count = 1 })) (known + 1)
        next = record {
          few = omega arith;
          many = tallied_more ∙ ap (λ (m : ℕ). length (suppliers_of file m)) (add-one n);
          held =
              ap₂ (λ (t : List Line) (k : ℕ). put_in t known p (record { supplier = supplier_at file n; count = k })) h.held first
              ∙ put_padded (lines_of file n) known p (line_of file (suc n) (supplier_at file n)) (sym many_lines) within r
              ∙ ap padded
              (sym (counts_new (supplier_at file n) (line_of file n) (line_of file (suc n)) others (suppliers_of file n) p (omega (arith, within, h.many)) apart)
              ∙ ap (map (line_of file (suc n))) (sym put));
        }
