-- EXACTLY WHEN a segment that is evaluated alone is refused with 10, 12, 13, 14, 15 or 17, and that no other refusal is given. Assumes nothing.
use Prim.Native.Nat.{ℕ, ◌≤◌, ◌<◌}
use mathlib.Core.Path.{◌≡◌, refl, sym, ap, ◌∙◌}
use mathlib.Core.Bool.{true, false, ◌||◌, true≢false}
use mathlib.Core.Logic.{inl, inr, ⊎_elim, ◌⊎◌, ◌↔◌}
use mathlib.Core.List.{List}
use native.Mathlib.Omega.{arith}
use native.Mathlib.Decide.{dec_lt}
use lib.Dec.{eqb}
use lib.Ieee.{Float, is_nan}
use Rattle.bits.proofs.Tests.{by_test_lem}
use Rattle.refusal.specs.declared.Refusal.{Refusal}
use Rattle.refusal.specs.declared.Refusal.TheVariants.{TableUnfit, EpochNan, NoSegment, NotFinite}
use Rattle.refusal.specs.Numbers.{number_of}
use Rattle.segment.specs.declared.Segment.{Segment}
use Rattle.table.specs.Segments.{seg}
use Rattle.std.specs.Prelude.{Err}
use Rattle.pck.specs.declared.Oriented.{Oriented}
use Rattle.pck.specs.Orienting.{refused_oriented}
use Rattle.pck.specs.Alone.{alone_oriented, PastAlone, AloneBy, alone_value, Alone10, Alone17, AloneOwn, Alone14, Alone15}
use Rattle.pck.proofs.Ways.{settled_refused, settled_state}
use Rattle.pck.proofs.Alone.{alone_unfit, alone_nan, alone_none, alone_some}
use Rattle.pck.proofs.Exactly.{clash, outcome_refused, one_refusal, settled_why, own_number}

module _ (limit : ℕ) (k : List ℕ) (segs : List Segment) (n i : ℕ) (et : Float) where
  -- which test a refusal comes from
  data Why (r : Refusal) : Type 0 where
    over : limit < n → TableUnfit ≡ r → Why r
    nan : Alone10 limit k segs n i et → EpochNan ≡ r → Why r
    none : Alone17 limit k segs n i et → NoSegment ≡ r → Why r
    own : AloneOwn limit k segs n i et r → Why r
    infinite : Alone15 limit k segs n i et → NotFinite ≡ r → Why r

  -- the whole of a refused answer, by its reason
  refused_whole : (r : Refusal) → Why r → alone_oriented limit k segs n i et ≡ refused_oriented r
  refused_whole r (over l e) = alone_unfit limit k n i et _ l ∙ ap refused_oriented e
  refused_whole r (nan w e) = alone_nan limit k n i et _ w.fits w.nan ∙ ap refused_oriented e
  refused_whole r (none w e) = alone_none limit k n i et _ w.fits w.number w.past ∙ ap refused_oriented e
  refused_whole r (own w) = alone_some limit k n i et _ w.past.fits w.past.number w.past.below ∙ settled_refused _ _ r w.given
  refused_whole r (infinite w e) =
      alone_some limit k n i et _ w.past.fits w.past.number w.past.below ∙ settled_state _ _ w.value false w.given w.not_finite ∙ ap refused_oriented e

  given_why : (r : Refusal) → Why r → AloneBy limit k segs n i et r
  given_why r w = ap (λ (a : Oriented). a.outcome) (refused_whole r w) ∙ outcome_refused r

  why : (r : Refusal) → AloneBy limit k segs n i et r → Why r
  why r h =
      elim (dec_lt limit n) [
        | yes l ↦ over l (one_refusal TableUnfit r (from (alone_unfit limit k n i et _ l)))
        | no g ↦
            let le : n ≤ limit = omega arith in
            by_test_lem (is_nan et) (λ d. nan (record { fits = le; nan = d }) (one_refusal EpochNan r (from (alone_nan limit k n i et _ le d))))
            (λ d.
            elim (dec_lt i n) [
              | yes b ↦
                  let p : PastAlone limit n i et = record { fits = le; number = d; below = b } in
                  ⊎_elim (λ x. own (record { past = p; given = x }))
                  (λ x. infinite (record { past = p; value = x.0; given = x.1; not_finite = x.2 }) x.3)
                  (settled_why (seg segs i) (alone_value limit k segs n i et) r (from (alone_some limit k n i et _ le d b)))
              | no b ↦ let p : n ≤ i = omega arith in none (record { fits = le; number = d; past = p }) (one_refusal NoSegment r (from (alone_none limit k n i et _ le d p)))
            ])
      ]
    where
      from : {a : Oriented} → alone_oriented limit k segs n i et ≡ a → a.outcome ≡ Err r
      from e = ap (λ (x : Oriented). x.outcome) (sym e) ∙ h

  -- a refused answer holds frame 0 and six zeros
  pub alone_zeros : (r : Refusal) → AloneBy limit k segs n i et r → alone_oriented limit k segs n i et ≡ refused_oriented r
  alone_zeros r h = refused_whole r (why r h)

  -- a refusal that no segment is evaluated to
  other : {X : Type 0} (r : Refusal) → ((12 ≤ number_of r) × (number_of r ≤ 14) → ⊥) → AloneOwn limit k segs n i et r → X
  other r f w = absurd (f (own_number k (seg segs i) i et r w.given))

  -- **exactly-when**, 10
  pub alone_10 : AloneBy limit k segs n i et EpochNan ↔ Alone10 limit k segs n i et
  alone_10 = (λ h. only (why EpochNan h), λ w. given_why EpochNan (nan w refl))
    where
      only : Why EpochNan → Alone10 limit k segs n i et
      only (over l x) = clash (cc)
      only (nan w x) = w
      only (none w x) = clash (cc)
      only (own w) = other EpochNan (λ b. omega arith) w
      only (infinite w x) = clash (cc)

  -- **exactly-when**, 17
  pub alone_17 : AloneBy limit k segs n i et NoSegment ↔ Alone17 limit k segs n i et
  alone_17 = (λ h. only (why NoSegment h), λ w. given_why NoSegment (none w refl))
    where
      only : Why NoSegment → Alone17 limit k segs n i et
      only (over l x) = clash (cc)
      only (nan w x) = clash (cc)
      only (none w x) = w
      only (own w) = other NoSegment (λ b. omega arith) w
      only (infinite w x) = clash (cc)

  -- **exactly-when**, 12 and 13: the segment is evaluated to it
  pub alone_own : (r : Refusal) → (eqb (number_of r) 12 || eqb (number_of r) 13) ≡ true → AloneBy limit k segs n i et r ↔ AloneOwn limit k segs n i et r
  alone_own r t = (λ h. only (why r h), λ w. given_why r (own w))
    where
      no : (x : Refusal) → x ≡ r → (eqb (number_of x) 12 || eqb (number_of x) 13) ≡ false → AloneOwn limit k segs n i et r
      no x e f = absurd (true≢false (sym t ∙ ap (λ (y : Refusal). eqb (number_of y) 12 || eqb (number_of y) 13) (sym e) ∙ f))

      only : Why r → AloneOwn limit k segs n i et r
      only (over l x) = no TableUnfit x refl
      only (nan w x) = no EpochNan x refl
      only (none w x) = no NoSegment x refl
      only (own w) = w
      only (infinite w x) = no NotFinite x refl

  -- **exactly-when**, 14
  pub alone_14 : AloneBy limit k segs n i et TableUnfit ↔ Alone14 limit k segs n i et
  alone_14 = (λ h. only (why TableUnfit h), ⊎_elim (λ l. given_why TableUnfit (over l refl)) (λ w. given_why TableUnfit (own w)))
    where
      only : Why TableUnfit → Alone14 limit k segs n i et
      only (over l x) = inl l
      only (nan w x) = clash (cc)
      only (none w x) = clash (cc)
      only (own w) = inr w
      only (infinite w x) = clash (cc)

  -- **exactly-when**, 15
  pub alone_15 : AloneBy limit k segs n i et NotFinite ↔ Alone15 limit k segs n i et
  alone_15 = (λ h. only (why NotFinite h), λ w. given_why NotFinite (infinite w refl))
    where
      only : Why NotFinite → Alone15 limit k segs n i et
      only (over l x) = clash (cc)
      only (nan w x) = clash (cc)
      only (none w x) = clash (cc)
      only (own w) = other NotFinite (λ b. omega arith) w
      only (infinite w x) = w

  -- no refusal but 10, 12 to 15 and 17 is ever given
  pub alone_no_other : (r : Refusal) → AloneBy limit k segs n i et r → (number_of r ≡ 10) ⊎ ((12 ≤ number_of r) × (number_of r ≤ 15)) ⊎ (number_of r ≡ 17)
  alone_no_other r h = only (why r h)
    where
      within : (m : ℕ) → (12 ≤ m) × (m ≤ 15) → m ≡ number_of r → (number_of r ≡ 10) ⊎ ((12 ≤ number_of r) × (number_of r ≤ 15)) ⊎ (number_of r ≡ 17)
      within m b e = inr (inl (rw e at b))

      only : Why r → (number_of r ≡ 10) ⊎ ((12 ≤ number_of r) × (number_of r ≤ 15)) ⊎ (number_of r ≡ 17)
      only (over l x) = within 14 (omega arith) (ap number_of x)
      only (nan w x) = inl (sym (ap number_of x))
      only (none w x) = inr (inr (sym (ap number_of x)))
      only (own w) = let b = own_number k (seg segs i) i et r w.given in inr (inl (omega arith))
      only (infinite w x) = within 15 (omega arith) (ap number_of x)
