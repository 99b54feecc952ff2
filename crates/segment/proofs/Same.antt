-- Kinds that test the same are the same. Assumes nothing.
use Prim.Native.Nat.{ℕ}
use mathlib.Core.Path.{◌≡◌, refl, sym, ap₂, ◌∙◌}
use mathlib.Core.Bool.{true, cond, ◌&&◌}
use lib.Dec.{eqb}
use borrow.Author.Tests.{eqb-true}
use Rattle.bits.specs.Same.{same}
use Rattle.bits.proofs.Nan.{yes}
use Rattle.bits.proofs.Patterns.{same_eq}
use Rattle.bits.proofs.Tests.{and_first, and_second}
use Rattle.segment.specs.Kinds.{type_in, trailer_in, same_trailer, same_kind}
use Rattle.segment.specs.declared.Kind.{Kind}
use Rattle.segment.specs.declared.Kind.TheVariants.{Unsupported, Type2, Type3, Type9, Type13}
use Rattle.segment.specs.declared.Trailer.{Trailer}

pub same_trailer_eq : (a b : Trailer) → same_trailer a b ≡ true → a ≡ b
same_trailer_eq a b e =
    let e3 = and_first (same a.init b.init && same a.intlen b.intlen && eqb a.size b.size) (eqb a.count b.count) e in
    let e2 = and_first (same a.init b.init && same a.intlen b.intlen) (eqb a.size b.size) e3 in
    let p : a.init ≡ b.init = same_eq a.init b.init (yes (and_first (same a.init b.init) (same a.intlen b.intlen) e2)) in
    let q : a.intlen ≡ b.intlen = same_eq a.intlen b.intlen (yes (and_second (same a.init b.init) (same a.intlen b.intlen) e2)) in
    let r : a.size ≡ b.size = eqb-true a.size b.size (and_second (same a.init b.init && same a.intlen b.intlen) (eqb a.size b.size) e3) in
    let u : a.count ≡ b.count =
    eqb-true a.count b.count (and_second (same a.init b.init && same a.intlen b.intlen && eqb a.size b.size) (eqb a.count b.count) e) in
    λ i. record { init = p i; intlen = q i; size = r i; count = u i }

-- a kind made again from its type and its trailer
abbrev remade : ℕ → Trailer → Kind
remade n t =
    cond (eqb n 2) (Type2 t.init t.intlen t.size t.count)
    (cond (eqb n 3) (Type3 t.init t.intlen t.size t.count) (cond (eqb n 9) (Type9 t.size t.count) (cond (eqb n 13) (Type13 t.size t.count) Unsupported)))

remade_is : (a : Kind) → remade (type_in a) (trailer_in a) ≡ a
remade_is Unsupported = refl
remade_is (Type2 init intlen rsize n) = refl
remade_is (Type3 init intlen rsize n) = refl
remade_is (Type9 d n) = refl
remade_is (Type13 d n) = refl

pub same_kind_eq : (a b : Kind) → same_kind a b ≡ true → a ≡ b
same_kind_eq a b e =
    sym (remade_is a)
    ∙ ap₂ remade (eqb-true (type_in a) (type_in b) (and_first (eqb (type_in a) (type_in b)) (same_trailer (trailer_in a) (trailer_in b)) e))
    (same_trailer_eq (trailer_in a) (trailer_in b) (and_second (eqb (type_in a) (type_in b)) (same_trailer (trailer_in a) (trailer_in b)) e))
    ∙ remade_is b
