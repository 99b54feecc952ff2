-- Laws of a segment evaluated alone, one for each way through the code, and that the segment handed in is the table's. Assumes nothing.
use mathlib.Core.Path.{◌≡◌, sym, ap, ap₂, ◌∙◌}
use mathlib.Core.Bool.{Bool, true, false}
use mathlib.Core.List.{List, [], ◌∷◌}
use Prim.Native.Nat.{ℕ, ◌≤◌, ◌<◌}
use lib.Dec.{ltb, leb}
use lib.Ieee.{Float, is_nan}
use borrow.Author.Tests.{lt-ltb, le-ltb, ltb-true, ltb-false, le-leb, lt-leb, leb-true, leb-false}
use Rattle.bits.proofs.Tests.{by_test_lem}
use Rattle.refusal.specs.declared.Refusal.{Refusal}
use Rattle.refusal.specs.declared.Refusal.TheVariants.{TableUnfit, EpochNan, NoSegment}
use Rattle.refusal.specs.Order.{case, first_of}
use Rattle.daf.specs.declared.Family.TheVariants.{Pck}
use Rattle.segment.specs.declared.Segment.{Segment}
use Rattle.segment.specs.Evaluating.{evaluated}
use Rattle.table.specs.Segments.{seg}
use Rattle.std.proofs.Common.{Result, Ok, Err}
use Rattle.table.specs.Steps.{ready, counted, seg_or}
use Rattle.table.proofs.Early.{unless, first_ready}
use Rattle.table.proofs.Limits.{counted_all}
use Rattle.table.proofs.Choices.{or_yes}
use Rattle.pck.specs.declared.Oriented.{Oriented}
use Rattle.pck.specs.Orienting.{refused_oriented, settled}
use Rattle.pck.specs.Alone.{alone_with, alone_oriented}

module _ (limit : ℕ) (k : List ℕ) (n i : ℕ) (et : Float) (s : Segment) where
  -- what the three tests give
  tests : Bool → Bool → Bool → Oriented
  tests a b d = first_of (case a TableUnfit ∷ case b EpochNan ∷ case d NoSegment ∷ []) refused_oriented (settled s (evaluated Pck k s i et))

  pub alone_unfit : limit < n → alone_with limit k n i et s ≡ refused_oriented TableUnfit
  unfolding alone_with tests
  alone_unfit l = ap (λ (a : Bool). tests a (is_nan et) (leb n i)) (lt-ltb limit n l)

  pub alone_nan : n ≤ limit → is_nan et ≡ true → alone_with limit k n i et s ≡ refused_oriented EpochNan
  unfolding alone_with tests
  alone_nan l d = ap₂ (λ (a b : Bool). tests a b (leb n i)) (le-ltb limit n l) d

  pub alone_none : n ≤ limit → is_nan et ≡ false → n ≤ i → alone_with limit k n i et s ≡ refused_oriented NoSegment
  unfolding alone_with tests
  alone_none l d h = ap₂ (λ (a b : Bool). tests a b (leb n i)) (le-ltb limit n l) d ∙ ap (tests false false) (le-leb n i h)

  pub alone_some : n ≤ limit → is_nan et ≡ false → i < n → alone_with limit k n i et s ≡ settled s (evaluated Pck k s i et)
  unfolding alone_with tests
  alone_some l d h = ap₂ (λ (a b : Bool). tests a b (leb n i)) (le-ltb limit n l) d ∙ ap (tests false false) (lt-leb n i h)

  -- the same by what the tests before any segment give; then its number
  later : Bool → Oriented
  later d = first_of (case d NoSegment ∷ []) refused_oriented (settled s (evaluated Pck k s i et))

  by_ready : (r : Result (Unit {0}) Refusal) → ready limit n et ≡ r → unless r refused_oriented (later (leb n i)) ≡ alone_with limit k n i et s
  unfolding alone_with later
  by_ready r e =
      sym (ap (λ (x : Result (Unit {0}) Refusal). unless x refused_oriented (later (leb n i))) e)
      ∙ first_ready limit n et (case (leb n i) NoSegment ∷ []) refused_oriented (settled s (evaluated Pck k s i et))

  pub unready : (r : Refusal) → ready limit n et ≡ Err r → refused_oriented r ≡ alone_with limit k n i et s
  unready r e = by_ready (Err r) e

  pub ready_none : (t : Unit {0}) → ready limit n et ≡ Ok t → n ≤ i → refused_oriented NoSegment ≡ alone_with limit k n i et s
  unfolding later
  ready_none t e h = sym (ap later (le-leb n i h)) ∙ by_ready (Ok t) e

  pub ready_some : (t : Unit {0}) → ready limit n et ≡ Ok t → i < n → settled s (evaluated Pck k s i et) ≡ alone_with limit k n i et s
  unfolding later
  ready_some t e h = sym (ap later (lt-leb n i h)) ∙ by_ready (Ok t) e

module _ (limit : ℕ) (k : List ℕ) (segs : List Segment) (n i : ℕ) (et : Float) where
  abbrev s : Segment
  s = seg_or segs (counted limit n) i

  -- where there is such a segment, it is the one that is evaluated
  same : n ≤ limit → i < n → s ≡ seg segs i
  same l h = ap (λ (m : ℕ). seg_or segs m i) (sym (counted_all limit n l)) ∙ sym (or_yes segs n i (lt-ltb i n h))

  pub alone_told : alone_with limit k n i et s ≡ alone_oriented limit k segs n i et
  alone_told =
      by_test_lem (ltb limit n) (λ over. let o = ltb-true limit n over in alone_unfit limit k n i et s o ∙ sym (alone_unfit limit k n i et _ o))
      (λ fits. let l : n ≤ limit = ltb-false limit n fits in
      by_test_lem (is_nan et) (λ nan. alone_nan limit k n i et s l nan ∙ sym (alone_nan limit k n i et _ l nan))
      (λ num. by_test_lem (leb n i) (λ past. let p = leb-true n i past in alone_none limit k n i et s l num p ∙ sym (alone_none limit k n i et _ l num p))
      (λ below. ap (alone_with limit k n i et) (same l (leb-false n i below)))))
