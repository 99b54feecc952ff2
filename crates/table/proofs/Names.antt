-- Laws of `name_with`, one for each way through `name_in`, and that it is `name_at` of a table. Assumes nothing.
use mathlib.Core.Path.{◌≡◌, sym, ap, ap₂, ◌∙◌, subst}
use mathlib.Core.Bool.{Bool, cond, ◌||◌}
use mathlib.Core.List.{List, []}
use Prim.Native.Nat.{ℕ, ◌≤◌, ◌<◌, zero-le}
use lib.Dec.{ltb, leb}
use borrow.Author.Tests.{lt-ltb, le-ltb, le-leb, lt-leb, ltb-true, ltb-false, leb-true, leb-false}
use Rattle.bits.proofs.Tests.{by_test_lem}
use Rattle.daf.specs.Names.{name_of}
use Rattle.segment.specs.declared.Segment.{Segment}
use Rattle.table.specs.Segments.{seg}
use Rattle.table.specs.Steps.{seg_or, name_with, counted}
use Rattle.table.specs.Naming.{name_at}
use Rattle.table.proofs.Limits.{counted_over, counted_all}
use Rattle.table.proofs.Choices.{or_at}

module _ (limit : ℕ) (k : List ℕ) (segs : List Segment) (n i : ℕ) where
  -- what the two tests give
  tests : Bool → Bool → List ℕ
  tests a b = cond (a || b) [] (name_of k (seg segs i).name_at)

  -- a count over the limit
  pub name_unfit : limit < n → name_at limit k segs n i ≡ []
  unfolding name_at tests
  name_unfit l = ap (λ (a : Bool). tests a (leb n i)) (lt-ltb limit n l)

  -- no segment of that number
  pub name_none : n ≤ limit → n ≤ i → name_at limit k segs n i ≡ []
  unfolding name_at tests
  name_none l h = ap₂ tests (le-ltb limit n l) (le-leb n i h)

  -- one
  pub name_some : n ≤ limit → i < n → name_at limit k segs n i ≡ name_of k (seg segs i).name_at
  unfolding name_at tests
  name_some l h = ap₂ tests (le-ltb limit n l) (lt-leb n i h)

module _ (k : List ℕ) (n i : ℕ) (s : Segment) where
  pub with_none : n ≤ i → name_with k n i s ≡ []
  unfolding name_with
  with_none h = ap (λ (b : Bool). cond b [] (name_of k s.name_at)) (le-leb n i h)

  pub with_some : i < n → name_with k n i s ≡ name_of k s.name_at
  unfolding name_with
  with_some h = ap (λ (b : Bool). cond b [] (name_of k s.name_at)) (lt-leb n i h)

module _ (limit : ℕ) (k : List ℕ) (segs : List Segment) (n i : ℕ) where
  pub name_told : name_with k (counted limit n) i (seg_or segs (counted limit n) i) ≡ name_at limit k segs n i
  name_told =
      by_test_lem (ltb limit n)
      (λ over. let z = counted_over limit n (ltb-true limit n over) in with_none k (counted limit n) i _ (subst (λ (m : ℕ). m ≤ i) z zero-le) ∙ sym (name_unfit limit k segs n i (ltb-true limit n over)))
      (λ fits. let l : n ≤ limit = ltb-false limit n fits in
      ap (λ (m : ℕ). name_with k m i (seg_or segs m i)) (sym (counted_all limit n l))
      ∙ by_test_lem (leb n i) (λ past. with_none k n i _ (leb-true n i past) ∙ sym (name_none limit k segs n i l (leb-true n i past)))
      (λ below. let h : i < n = leb-false n i below in
      with_some k n i _ h ∙ ap (λ (s : Segment). name_of k s.name_at) (or_at segs n i h) ∙ sym (name_some limit k segs n i l h)))
