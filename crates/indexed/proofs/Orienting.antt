-- A question to a PCK through an index: a law for each way through the code; and through an index as an opening fills it it is answered as
-- without one. Assumes nothing.
use mathlib.Core.Path.{◌≡◌, sym, ap, ◌∙◌}
use mathlib.Core.Bool.{Bool, true, false, cond}
use mathlib.Core.List.{List}
use Prim.Native.Nat.{ℕ}
use native.Mathlib.Omega.{arith}
use Rattle.bits.proofs.Tests.{by_test_lem, and_first, same_z_eq}
use Rattle.segment.specs.declared.Segment.{Segment}
use Rattle.table.specs.Steps.{Within}
use Rattle.index.specs.Parts.{last_of, below_of, has_room, RightIndex}
use Rattle.index.proofs.Right.{last_by_index}
use Rattle.index.proofs.Choices.{last_by_within}
use Rattle.index.proofs.Parts.{room_yes, length_last}
use Rattle.pck.specs.declared.Question.{Question}
use Rattle.pck.specs.declared.Oriented.{Oriented}
use Rattle.pck.specs.Orienting.{hits, oriented}
use Rattle.pck.proofs.Finding.{given, oriented_told_lem}
use Rattle.indexed.specs.Orienting.{body_found, oriented_through, oriented_with}

module _ (limit : ℕ) (k : List ℕ) (segs : List Segment) (n : ℕ) (q : Question) where
  pub found_within : (ix : List ℕ) (j : ℕ) → Within j (body_found segs j ix q)
  found_within ix j = last_by_within (hits q) segs (below_of ix) j (last_of ix) q.body

  module _ (ix : List ℕ) where
    rooms : Bool → Oriented
    rooms b = cond b (oriented_through limit k segs n ix q) (oriented limit k segs n q)

    pub with_room : has_room n ix ≡ true → oriented_through limit k segs n ix q ≡ oriented_with limit k segs n ix q
    unfolding oriented_with rooms
    with_room e = sym (ap rooms e)

    pub without_room : has_room n ix ≡ false → oriented limit k segs n q ≡ oriented_with limit k segs n ix q
    unfolding oriented_with rooms
    without_room e = sym (ap rooms e)

    -- THEOREM: with an index that is right where it has room every orientation is that without one
    pub no_index : (has_room n ix ≡ true → RightIndex segs n ix) → oriented_with limit k segs n ix q ≡ oriented limit k segs n q
    no_index right =
        by_test_lem (has_room n ix)
        (λ y.
        sym (with_room y)
        ∙ ap (given limit k segs n q)
        (last_by_index segs n (last_of ix) (below_of ix) (right y).down (hits q) q.body (let e = length_last ix in let b = (room_yes n ix y).bucket in omega arith) (λ s h. same_z_eq _ _ (and_first _ _ h)))
        ∙ oriented_told_lem limit k segs n q)
        (λ y. sym (without_room y))
