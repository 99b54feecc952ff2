-- EXACTLY WHEN a segment alone is refused, for any evaluation that gives only its own refusals (12, 13, 14). Assumes nothing.
--     alone_10, alone_17, alone_own, alone_14, alone_15    10; 17; 12 and 13; 14; 15
--     alone_other, alone_zeros    no number but 10, 12 to 15 and 17; six zeros and no segment
--     alone_never_14   where the count fits and no segment is refused with 14, none is alone
use Prim.Native.Nat.{ℕ, ◌≤◌, ◌<◌}
use mathlib.Core.Path.{◌≡◌, refl, sym, ap, ◌∙◌}
use mathlib.Core.Bool.{true, false, true≢false}
use mathlib.Core.Logic.{inl, inr, ⊎_elim, ◌↔◌}
use mathlib.Core.List.{List}
use native.Mathlib.Omega.{arith}
use native.Mathlib.Decide.{dec_lt}
use lib.Ieee.{Float, is_nan}
use Rattle.bits.proofs.Tests.{by_test_lem}
use Rattle.refusal.specs.declared.Refusal.{Refusal}
use Rattle.refusal.specs.declared.Refusal.TheVariants.{EpochNan, TableUnfit, NotFinite, NoSegment}
use Rattle.refusal.specs.Numbers.{number_of}
use Rattle.segment.specs.declared.Segment.{Segment}
use Rattle.std.proofs.Common.{Err}
use Rattle.table.specs.Segments.{seg}
use Rattle.frame.specs.declared.Given.{Given}
use Rattle.frame.specs.State.{finite_state}
use Rattle.chain.specs.Step.{Evaluation, given_by, yield_of}
use Rattle.chain.specs.When.{is_own, OwnOnly}
use Rattle.chain.proofs.Ends.{clash}
use Rattle.spk.specs.declared.Way.TheVariants as ways
use Rattle.spk.specs.declared.Answer.{Answer}
use Rattle.spk.specs.Answers.{refused_answer}
use Rattle.spk.specs.Alone.{alone_answer}
use Rattle.spk.specs.When.{is12or13, AloneNumber, AloneBy, Evaluates, Alone10, Alone17, AloneOwn, Alone14, Alone15}
use Rattle.spk.proofs.Settling.{settled_refused, settled_state}
use Rattle.spk.proofs.Single.{alone_unfit, alone_nan, alone_none, alone_some}
use Rattle.frame.proofs.Finite.{infinite_where, infinite_only}
use Rattle.spk.proofs.Exactly.{way_refused, answer_refused, settled_why, yield_why, yield_gives, own_within}

module _ (limit : ℕ) (ev : Evaluation) (segs : List Segment) (n i : ℕ) (et : Float) where
  -- which test a refusal comes from
  data Why (r : Refusal) : Type 0 where
    over : limit < n → TableUnfit ≡ r → Why r
    nan : Alone10 limit ev segs n i et → EpochNan ≡ r → Why r
    none : Alone17 limit ev segs n i et → NoSegment ≡ r → Why r
    own : AloneOwn limit ev segs n i et r → Why r
    infinite : Alone15 limit ev segs n i et → NotFinite ≡ r → Why r

  why : (r : Refusal) → AloneBy limit ev segs n i et r → Why r
  why r h =
      elim (dec_lt limit n) [
        | yes l ↦ over l (from TableUnfit (alone_unfit limit ev n i et (seg segs i) l))
        | no g ↦
            let le : n ≤ limit = omega arith in
            by_test_lem (is_nan et) (λ d. nan (record { fits = le; nan = d }) (from EpochNan (alone_nan limit ev n i et (seg segs i) le d)))
            (λ d.
            elim (dec_lt i n) [
              | yes b ↦ inside le d b
              | no b ↦
                  let far : n ≤ i = omega arith in
                  none (record { past = record { fits = le; number = d }; none = far }) (from NoSegment (alone_none limit ev n i et (seg segs i) le d far))
            ])
      ]
    where
      from : (x : Refusal) → alone_answer limit ev segs n i et ≡ refused_answer x → x ≡ r
      from x e = answer_refused x r (ap (λ (a : Answer). a.way) (sym e) ∙ h)

      inside : n ≤ limit → is_nan et ≡ false → i < n → Why r
      inside le d b =
          let past : Evaluates limit ev segs n i et = record { past = record { fits = le; number = d }; below = b } in
          ⊎_elim (λ p. own (record { past = past; given = yield_why (seg segs i) _ r p }))
          (λ p.
          let v = yield_gives (seg segs i) (ev (seg segs i) i et) p.0 p.1 in
          infinite (record { past = past; value = v.0; given = v.1; infinite = infinite_only v.0.state (ap (λ (g : Given). finite_state g.state) v.2 ∙ p.2) }) p.3)
          (settled_why (ways.Forward i) (yield_of (seg segs i) (ev (seg segs i) i et)) r refl (ap (λ (a : Answer). a.way) (sym (alone_some limit ev n i et (seg segs i) le d b)) ∙ h))

  whole : (r : Refusal) → Why r → alone_answer limit ev segs n i et ≡ refused_answer r
  whole r (over l x) = alone_unfit limit ev n i et (seg segs i) l ∙ ap refused_answer x
  whole r (nan w x) = alone_nan limit ev n i et (seg segs i) w.fits w.nan ∙ ap refused_answer x
  whole r (none w x) = alone_none limit ev n i et (seg segs i) w.past.fits w.past.number w.none ∙ ap refused_answer x
  whole r (own w) = alone_some limit ev n i et (seg segs i) w.past.past.fits w.past.past.number w.past.below ∙ settled_refused _ _ r (ap (yield_of (seg segs i)) w.given)
  whole r (infinite w x) =
      alone_some limit ev n i et (seg segs i) w.past.past.fits w.past.past.number w.past.below
      ∙ settled_state _ _ (given_by (seg segs i) w.value) false (ap (yield_of (seg segs i)) w.given) (infinite_where w.value.state w.infinite)
      ∙ ap refused_answer x

  given_why : (r : Refusal) → Why r → AloneBy limit ev segs n i et r
  given_why r w = ap (λ (a : Answer). a.way) (whole r w) ∙ way_refused r

  -- with a refusal stand six zeros and no segment
  pub alone_zeros : (r : Refusal) → AloneBy limit ev segs n i et r → alone_answer limit ev segs n i et ≡ refused_answer r
  alone_zeros r h = whole r (why r h)

  -- **exactly-when**, 14
  pub alone_14 : Alone14 limit ev segs n i et ↔ AloneBy limit ev segs n i et TableUnfit
  alone_14 = (⊎_elim (λ l. given_why TableUnfit (over l refl)) (λ w. given_why TableUnfit (own w)), λ h. only (why TableUnfit h))
    where
      only : Why TableUnfit → Alone14 limit ev segs n i et
      only (over l x) = inl l
      only (nan w x) = clash (cc)
      only (none w x) = clash (cc)
      only (own w) = inr w
      only (infinite w x) = clash (cc)

  pub alone_never_14 : n ≤ limit → ((j : ℕ) → j < n → (t : Float) → ev (seg segs j) j t ≡ Err TableUnfit → ⊥) → AloneBy limit ev segs n i et TableUnfit → ⊥
  alone_never_14 le fit h = ⊎_elim (λ l. omega arith) (λ w. fit i w.past.below et w.given) (alone_14.1 h)

  -- **exactly-when**, 12 and 13: the segment is evaluated to it
  pub alone_own : (r : Refusal) → is12or13 r ≡ true → AloneOwn limit ev segs n i et r ↔ AloneBy limit ev segs n i et r
  alone_own r t = (λ w. given_why r (own w), λ h. only (why r h))
    where
      no : {X : Type 0} (x : Refusal) → x ≡ r → is12or13 x ≡ false → X
      no x e f = absurd (true≢false (sym t ∙ ap is12or13 (sym e) ∙ f))

      only : Why r → AloneOwn limit ev segs n i et r
      only (over l x) = no TableUnfit x refl
      only (nan w x) = no EpochNan x refl
      only (none w x) = no NoSegment x refl
      only (own w) = w
      only (infinite w x) = no NotFinite x refl

  module _ (owns : OwnOnly ev) where
    -- a refusal that no evaluation gives
    other : {X : Type 0} (r : Refusal) → is_own r ≡ false → AloneOwn limit ev segs n i et r → X
    other r f w = absurd (true≢false (sym (owns (seg segs i) i et r w.given) ∙ f))

    -- **exactly-when**, 10
    pub alone_10 : Alone10 limit ev segs n i et ↔ AloneBy limit ev segs n i et EpochNan
    alone_10 = (λ w. given_why EpochNan (nan w refl), λ h. only (why EpochNan h))
      where
        only : Why EpochNan → Alone10 limit ev segs n i et
        only (over l x) = clash (cc)
        only (nan w x) = w
        only (none w x) = clash (cc)
        only (own w) = other EpochNan refl w
        only (infinite w x) = clash (cc)

    -- **exactly-when**, 17
    pub alone_17 : Alone17 limit ev segs n i et ↔ AloneBy limit ev segs n i et NoSegment
    alone_17 = (λ w. given_why NoSegment (none w refl), λ h. only (why NoSegment h))
      where
        only : Why NoSegment → Alone17 limit ev segs n i et
        only (over l x) = clash (cc)
        only (nan w x) = clash (cc)
        only (none w x) = w
        only (own w) = other NoSegment refl w
        only (infinite w x) = clash (cc)

    -- **exactly-when**, 15
    pub alone_15 : Alone15 limit ev segs n i et ↔ AloneBy limit ev segs n i et NotFinite
    alone_15 = (λ w. given_why NotFinite (infinite w refl), λ h. only (why NotFinite h))
      where
        only : Why NotFinite → Alone15 limit ev segs n i et
        only (over l x) = clash (cc)
        only (nan w x) = clash (cc)
        only (none w x) = clash (cc)
        only (own w) = other NotFinite refl w
        only (infinite w x) = w

    -- no refusal but 10, 12 to 15 and 17 is ever given
    pub alone_other : (r : Refusal) → AloneBy limit ev segs n i et r → AloneNumber (number_of r)
    alone_other r h = only (why r h)
      where
        only : Why r → AloneNumber (number_of r)
        only (over l x) = let e = ap number_of x in inr (inl (omega arith, omega arith))
        only (nan w x) = inl (sym (ap number_of x))
        only (none w x) = inr (inr (sym (ap number_of x)))
        only (own w) = let b = own_within (number_of r) (owns (seg segs i) i et r w.given) in inr (inl (omega arith, omega arith))
        only (infinite w x) = let e = ap number_of x in inr (inl (omega arith, omega arith))
