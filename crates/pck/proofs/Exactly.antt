-- EXACTLY WHEN a question is refused with 10, 11, 12, 13, 14 or 15, and that no other refusal is given. Assumes nothing.
use Prim.Native.Nat.{ℕ, zero, suc, ◌≤◌, ◌<◌}
use mathlib.Core.Path.{◌≡◌, refl, sym, ap, ◌∙◌}
use mathlib.Core.Bool.{Bool, true, false, cond, ◌||◌, true≢false}
use mathlib.Core.Logic.{◌⊎◌, inl, inr, ⊎_elim, ◌↔◌}
use mathlib.Core.List.{List}
use native.Mathlib.Omega.{arith}
use native.Mathlib.Decide.{dec_lt}
use lib.Dec.{eqb}
use lib.Ieee.{Float, is_nan}
use lib.IntN.{ℤ}
use Rattle.bits.proofs.Tests.{by_test_lem}
use Rattle.refusal.specs.declared.Refusal.{Refusal}
use Rattle.refusal.specs.declared.Refusal.TheVariants.{TableUnfit, EpochNan, NoCoverage, NotFinite}
use Rattle.refusal.specs.Numbers.{number_of}
use Rattle.refusal.specs.Order.{First, given}
use Rattle.frame.specs.State.{finite_state}
use Rattle.frame.proofs.Finite.{infinite_where, infinite_only}
use Rattle.daf.specs.declared.Family.TheVariants.{Pck}
use Rattle.segment.specs.declared.Segment.{Segment}
use Rattle.segment.specs.declared.Valued.{Valued}
use Rattle.std.proofs.Common.{Result, Ok, Err}
use Rattle.segment.specs.Evaluating.{cases, evaluated}
use Rattle.segment.proofs.Refusals.{refused_by_lem, never_16}
use Rattle.std.proofs.Common.{Option, Some, None}
use Rattle.table.specs.Segments.{seg}
use Rattle.pck.specs.declared.Question.{Question}
use Rattle.std.specs.Prelude.{Result, Ok, Err}
use Rattle.pck.specs.declared.Oriented.{Oriented}
use Rattle.pck.specs.Orienting.{oriented_of, refused_oriented, settled, hits, chosen, no_coverage, oriented_by, oriented}
use Rattle.pck.specs.When.{Past, Answers, RefusedBy, value_of, When10, When11, WhenOwn, When14, When15}
use Rattle.pck.proofs.Ways.{settled_refused, settled_state, oriented_unfit, oriented_nan, oriented_by_lem}
use Rattle.pck.proofs.Chosen.{chosen_last, last_chosen, none_chosen, chosen_none}

-- two constructors are never equal
pub clash : {X : Type 0} → ◌≡◌ {A = ℕ} 0 1 → X
clash z = absurd (let y = z in omega arith)

-- a refused answer's outcome
pub outcome_refused : (r : Refusal) → (refused_oriented r).outcome ≡ Err r
unfolding refused_oriented
outcome_refused r = refl

pub one_refusal : (r s : Refusal) → (refused_oriented r).outcome ≡ Err s → r ≡ s
one_refusal r s h = let e : ◌≡◌ {A = Result (Unit {0}) Refusal} (Err r) (Err s) = sym (outcome_refused r) ∙ h in cc

-- why what a segment was evaluated to is refused: by itself, or by 15
pub settled_why : (s : Segment) (e : Result Valued Refusal) (r : Refusal) → (settled s e).outcome ≡ Err r
    → (e ≡ Err r) ⊎ ((x : Valued) × (e ≡ Ok x) × (finite_state x.state ≡ false) × (NotFinite ≡ r))
unfolding settled
settled_why s (Err x) r h = inl (ap Err (one_refusal x r h))
settled_why s (Ok x) r h = go (finite_state x.state) refl h
  where
    go : (b : Bool) → finite_state x.state ≡ b → (cond b (oriented_of (Ok tt) s.frame x.state x.stretched) (refused_oriented NotFinite)).outcome ≡ Err r
        → (◌≡◌ {A = Result Valued Refusal} (Ok x) (Err r)) ⊎ ((y : Valued) × ◌≡◌ {A = Result Valued Refusal} (Ok x) (Ok y) × (finite_state y.state ≡ false) × (NotFinite ≡ r))
    go true f e = clash (cc)
    go false f e = inr (x, refl, f, one_refusal NotFinite r e)

-- a segment's own refusals are 12, 13 and 14
pub own_number : (k : List ℕ) (s : Segment) (i : ℕ) (et : Float) (r : Refusal) → evaluated Pck k s i et ≡ Err r
    → (12 ≤ number_of r) × (number_of r ≤ 14)
own_number k s i et r e = go (refused_by_lem Pck k s i et r e)
  where
    within : (m : ℕ) → (12 ≤ m) × (m ≤ 14) → number_of r ≡ m → (12 ≤ number_of r) × (number_of r ≤ 14)
    within m b x = rw x b

    go : (j : ℕ) × First (cases Pck k s i et) j × (r ≡ given (cases Pck k s i et) j) → (12 ≤ number_of r) × (number_of r ≤ 14)
    go (zero, h, x) = within 12 (omega arith) (ap number_of x)
    go (suc zero, h, x) = within 14 (omega arith) (ap number_of x)
    go (suc (suc zero), h, x) = within 13 (omega arith) (ap number_of x)
    go (suc (suc (suc zero)), h, x) = absurd (never_16 Pck k s i et i (e ∙ ap Err x))
    go (suc (suc (suc (suc j))), h, x) = absurd h.1.1.1.1

module _ (limit : ℕ) (k : List ℕ) (segs : List Segment) (n : ℕ) (q : Question) where
  -- which test a refusal comes from
  data Why (r : Refusal) : Type 0 where
    over : limit < n → TableUnfit ≡ r → Why r
    nan : When10 limit k segs n q → EpochNan ≡ r → Why r
    none : (b : ℤ) → When11 limit k segs n q b → NoCoverage b ≡ r → Why r
    own : WhenOwn limit k segs n q r → Why r
    infinite : When15 limit k segs n q → NotFinite ≡ r → Why r

  -- the segment that answers is the choice
  answer_choice : (i : ℕ) → Answers limit segs n q i → oriented limit k segs n q ≡ settled (seg segs i) (value_of limit k segs n q i)
  answer_choice i a =
      oriented_by_lem limit k segs n q (Some i) (last_chosen (hits q) segs n i (record { below = a.below; passes = a.covers; none = a.last })) a.past.fits a.past.number

  -- the whole of a refused answer, by its reason
  refused_whole : (r : Refusal) → Why r → oriented limit k segs n q ≡ refused_oriented r
  refused_whole r (over l e) = oriented_unfit limit k segs n q l ∙ ap refused_oriented e
  refused_whole r (nan w e) = oriented_nan limit k segs n q w.fits w.nan ∙ ap refused_oriented e
  refused_whole r (none b w e) =
      oriented_by_lem limit k segs n q None (none_chosen (hits q) segs n w.none) w.past.fits w.past.number
      ∙ ap refused_oriented (ap NoCoverage w.body ∙ e)
  refused_whole r (own w) = answer_choice w.number w.answers ∙ settled_refused _ _ r w.given
  refused_whole r (infinite w e) = answer_choice w.number w.answers ∙ settled_state _ _ w.value false w.given (infinite_where w.value.state w.infinite) ∙ ap refused_oriented e

  given_why : (r : Refusal) → Why r → RefusedBy limit k segs n q r
  given_why r w = ap (λ (a : Oriented). a.outcome) (refused_whole r w) ∙ outcome_refused r

  -- what a choice results in, past the first two tests
  by_choice : (r : Refusal) → Past limit n q → (c : Option ℕ) → chosen segs n q ≡ c → (oriented_by k segs q c).outcome ≡ Err r → Why r
  by_choice r p None e h = none q.body (record { past = p; none = chosen_none (hits q) segs n e; body = refl }) (one_refusal (no_coverage q) r h)
  by_choice r p (Some i) e h =
      let l = chosen_last (hits q) segs n i e in
      let a : Answers limit segs n q i = record { past = p; below = l.below; covers = l.passes; last = l.none } in
      ⊎_elim (λ x. own (record { number = i; answers = a; given = x }))
      (λ x. infinite (record { number = i; answers = a; value = x.0; given = x.1; infinite = infinite_only x.0.state x.2 }) x.3)
      (settled_why (seg segs i) (value_of limit k segs n q i) r h)

  why : (r : Refusal) → RefusedBy limit k segs n q r → Why r
  why r h =
      elim (dec_lt limit n) [
        | yes l ↦ over l (one_refusal TableUnfit r (from (oriented_unfit limit k segs n q l)))
        | no g ↦
            let le : n ≤ limit = omega arith in
            by_test_lem (is_nan q.et)
            (λ d. nan (record { fits = le; nan = d }) (one_refusal EpochNan r (from (oriented_nan limit k segs n q le d))))
            (λ d. by_choice r (record { fits = le; number = d }) (chosen segs n q) refl (from (oriented_by_lem limit k segs n q (chosen segs n q) refl le d)))
      ]
    where
      from : {a : Oriented} → oriented limit k segs n q ≡ a → a.outcome ≡ Err r
      from e = ap (λ (x : Oriented). x.outcome) (sym e) ∙ h

  -- a refused answer holds frame 0 and six zeros
  pub refused_zeros : (r : Refusal) → RefusedBy limit k segs n q r → oriented limit k segs n q ≡ refused_oriented r
  refused_zeros r h = refused_whole r (why r h)

  -- a refusal that no segment is evaluated to
  other : {X : Type 0} (r : Refusal) → ((12 ≤ number_of r) × (number_of r ≤ 14) → ⊥) → WhenOwn limit k segs n q r → X
  other r f w = absurd (f (own_number k (seg segs w.number) w.number q.et r w.given))

  -- **exactly-when**, 10
  pub exactly_10 : RefusedBy limit k segs n q EpochNan ↔ When10 limit k segs n q
  exactly_10 = (λ h. only (why EpochNan h), λ w. given_why EpochNan (nan w refl))
    where
      only : Why EpochNan → When10 limit k segs n q
      only (over l x) = clash (cc)
      only (nan w x) = w
      only (none b w x) = clash (cc)
      only (own w) = other EpochNan (λ b. omega arith) w
      only (infinite w x) = clash (cc)

  -- **exactly-when**, 11, whose detail is the body frame
  pub exactly_11 : (b : ℤ) → RefusedBy limit k segs n q (NoCoverage b) ↔ When11 limit k segs n q b
  exactly_11 b = (λ h. only (why (NoCoverage b) h), λ w. given_why (NoCoverage b) (none b w refl))
    where
      only : Why (NoCoverage b) → When11 limit k segs n q b
      only (over l x) = clash (cc)
      only (nan w x) = clash (cc)
      only (none d w x) = let e : d ≡ b = cc in record { past = w.past; none = w.none; body = w.body ∙ e }
      only (own w) = other (NoCoverage b) (λ x. omega arith) w
      only (infinite w x) = clash (cc)

  -- **exactly-when**, 12 and 13: the segment that answers is evaluated to it
  pub exactly_own : (r : Refusal) → (eqb (number_of r) 12 || eqb (number_of r) 13) ≡ true → RefusedBy limit k segs n q r ↔ WhenOwn limit k segs n q r
  exactly_own r t = (λ h. only (why r h), λ w. given_why r (own w))
    where
      no : (x : Refusal) → x ≡ r → (eqb (number_of x) 12 || eqb (number_of x) 13) ≡ false → WhenOwn limit k segs n q r
      no x e f = absurd (true≢false (sym t ∙ ap (λ (y : Refusal). eqb (number_of y) 12 || eqb (number_of y) 13) (sym e) ∙ f))

      only : Why r → WhenOwn limit k segs n q r
      only (over l x) = no TableUnfit x refl
      only (nan w x) = no EpochNan x refl
      only (none b w x) = no (NoCoverage b) x refl
      only (own w) = w
      only (infinite w x) = no NotFinite x refl

  -- **exactly-when**, 14
  pub exactly_14 : RefusedBy limit k segs n q TableUnfit ↔ When14 limit k segs n q
  exactly_14 = (λ h. only (why TableUnfit h), ⊎_elim (λ l. given_why TableUnfit (over l refl)) (λ w. given_why TableUnfit (own w)))
    where
      only : Why TableUnfit → When14 limit k segs n q
      only (over l x) = inl l
      only (nan w x) = clash (cc)
      only (none b w x) = clash (cc)
      only (own w) = inr w
      only (infinite w x) = clash (cc)

  -- where the count fits and no segment of the table is refused with 14, no question is
  pub never_14 : n ≤ limit → ((i : ℕ) → i < n → (et : Float) → evaluated Pck k (seg segs i) i et ≡ Err TableUnfit → ⊥) → RefusedBy limit k segs n q TableUnfit → ⊥
  never_14 le fit h = ⊎_elim (λ l. omega arith) (λ w. fit w.number w.answers.below q.et w.given) (exactly_14.0 h)

  -- **exactly-when**, 15
  pub exactly_15 : RefusedBy limit k segs n q NotFinite ↔ When15 limit k segs n q
  exactly_15 = (λ h. only (why NotFinite h), λ w. given_why NotFinite (infinite w refl))
    where
      only : Why NotFinite → When15 limit k segs n q
      only (over l x) = clash (cc)
      only (nan w x) = clash (cc)
      only (none b w x) = clash (cc)
      only (own w) = other NotFinite (λ b. omega arith) w
      only (infinite w x) = w

  -- no refusal but 10 to 15 is ever given
  pub no_other : (r : Refusal) → RefusedBy limit k segs n q r → (10 ≤ number_of r) × (number_of r ≤ 15)
  no_other r h = only (why r h)
    where
      within : (m : ℕ) → (10 ≤ m) × (m ≤ 15) → m ≡ number_of r → (10 ≤ number_of r) × (number_of r ≤ 15)
      within m b e = rw e at b

      only : Why r → (10 ≤ number_of r) × (number_of r ≤ 15)
      only (over l x) = within 14 (omega arith) (ap number_of x)
      only (nan w x) = within 10 (omega arith) (ap number_of x)
      only (none b w x) = within 11 (omega arith) (ap number_of x)
      only (own w) = let b = own_number k (seg segs w.number) w.number q.et r w.given in omega arith
      only (infinite w x) = within 15 (omega arith) (ap number_of x)
