-- Laws of the marks: of `marked_to`, the loop of `mark_all`; and that what an opening computes are the marks that the memory theorem
-- asks for. Assumes nothing.
use mathlib.Core.Path.{◌≡◌, refl, sym, ap, ap₂, ◌∙◌}
use mathlib.Core.Logic.{⊎_elim}
use mathlib.Core.Bool.{Bool, not, ◌&&◌, ◌||◌}
use mathlib.Core.List.{List}
use Prim.Native.Nat.{ℕ, zero, suc, ◌+◌, ◌≤◌, ◌<◌}
use native.Mathlib.Nat.{not-suc-le-zero, le_of_suc-le-suc, eq-or-lt_of_le}
use native.Mathlib.Numerals.{add-one}
use native.Mathlib.Omega.{arith}
use lib.Dec.{eqb}
use native.Mathlib.Decide.{dec_lt, ℕ_discrete}
use lib.Ieee.{nan}
use lib.ListN.{length, set, length-set}
use lib.Seq.{get_or-set_same, get_or-set_other, set_out}
use Rattle.segment.specs.declared.Segment.{Segment}
use Rattle.table.specs.Segments.{overlaps, with_mark, seg, blank}
use Rattle.table.specs.Marks.{others, mark, marked_to, MarkedRight}

-- ---- `marked_to`
pub marked_none : (segs : List Segment) (n : ℕ) → segs ≡ marked_to segs n 0
unfolding marked_to
marked_none segs n = refl

pub length_marked : (segs : List Segment) (n k : ℕ) → length (marked_to segs n k) ≡ length segs
unfolding marked_to
length_marked segs n zero = refl
length_marked segs n (suc k) = simp length-set (length_marked segs n k)

module _ (segs : List Segment) (n : ℕ) where
  -- a place below k has its mark
  at_marked : (k j : ℕ) → k ≤ length segs → j < k → seg (marked_to segs n k) j ≡ with_mark (seg segs j) (mark segs n j)
  unfolding marked_to
  at_marked zero j le lt = absurd (not-suc-le-zero lt)
  at_marked (suc k) j le lt =
      ⊎_elim
      (λ (e : j ≡ k).
      ap (λ (x : ℕ). seg (marked_to segs n (suc k)) x) e
      ∙ get_or-set_same (marked_to segs n k) k (with_mark (seg segs k) (mark segs n k)) (blank nan) (rw length_marked le)
      ∙ ap (λ (x : ℕ). with_mark (seg segs x) (mark segs n x)) (sym e))
      (λ l. get_or-set_other (marked_to segs n k) k j (with_mark (seg segs k) (mark segs n k)) (blank nan) (omega arith) ∙ at_marked k j (omega arith) l)
      (eq-or-lt_of_le (le_of_suc-le-suc lt))

  -- a place from k on is as it was
  pub at_kept : (k j : ℕ) → k ≤ j → seg (marked_to segs n k) j ≡ seg segs j
  unfolding marked_to
  at_kept zero j le = refl
  at_kept (suc k) j le =
      get_or-set_other (marked_to segs n k) k j (with_mark (seg segs k) (mark segs n k)) (blank nan) (omega arith) ∙ at_kept k j (omega arith)

  -- any place is as it was, but for its mark
  pub at_any : (k j : ℕ) → (m : Bool) × (seg (marked_to segs n k) j ≡ with_mark (seg segs j) m)
  unfolding marked_to
  at_any zero j = ((seg segs j).marked, refl)
  at_any (suc k) j =
      let v = with_mark (seg segs k) (mark segs n k) in
      let rest = at_any k j in
      elim (ℕ_discrete j k) [
        | yes e ↦ elim (dec_lt k (length (marked_to segs n k))) [
          | yes l ↦ (
            mark segs n k,
            ap (seg (set (marked_to segs n k) k v)) e
                ∙ get_or-set_same (marked_to segs n k) k v (blank nan) l
                ∙ ap (λ (x : ℕ). with_mark (seg segs x) (mark segs n k)) (sym e),
          )
          | no g ↦ (rest.0, ap (λ (l : List Segment). seg l j) (set_out (marked_to segs n k) k v (omega arith)) ∙ rest.1)
        ]
        | no ne ↦ (rest.0, get_or-set_other (marked_to segs n k) k j v (blank nan) ne ∙ rest.1)
      ]

  -- so the overlaps are as they were
  others_kept : (a a' : Segment) (i k : ℕ) (m : Bool) → a' ≡ with_mark a m
      → (j : ℕ) → others (marked_to segs n k) a' i j ≡ others segs a i j
  unfolding others
  others_kept a a' i k m e zero = refl
  others_kept a a' i k m e (suc j) =
      ap₂ (λ (o r : Bool). (not (eqb j i) && o) || r) (ap₂ overlaps e (at_any k j).1) (others_kept a a' i k m e j)

  -- a turn of the loop marks one more
  pub marked_more : (i : ℕ) (met : Bool) → others (marked_to segs n i) (seg (marked_to segs n i) i) i n ≡ met
      → set (marked_to segs n i) i (with_mark (seg (marked_to segs n i) i) (not met)) ≡ marked_to segs n (i + 1)
  unfolding marked_to
  marked_more i met e =
      let same = at_kept i i (omega arith) in
      ap₂ (λ (s : Segment) (b : Bool). set (marked_to segs n i) i (with_mark s (not b))) same
      (sym e ∙ others_kept (seg segs i) _ i i (seg segs i).marked same n)
      ∙ ap (marked_to segs n) (sym (add-one i))

  -- what an opening computes is what the memory theorem asks for
  pub marks_right : n ≤ length segs → MarkedRight (marked_to segs n n) n
  unfolding MarkedRight
  marks_right le i h =
      let e = at_marked n i le h in
      ap (λ (s : Segment). s.marked) e ∙ ap not (sym (others_kept (seg segs i) (seg (marked_to segs n n) i) i n (mark segs n i) e n))
