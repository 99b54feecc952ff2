-- A segment that fits its kernel: what the repeated tests leave. Assumes nothing.
use Prim.Native.Nat.{ℕ, ◌+◌, ◌*◌, ◌/◌, ◌≤◌}
use mathlib.Core.Path.{◌≡◌, refl, sym, ap, ◌∙◌, subst}
use mathlib.Core.Bool.{Bool, true, false, cond, not, ◌||◌, true≢false}
use mathlib.Core.List.{List}
use mathlib.Core.Logic.{◌⊎◌, inl, inr, ⊎_elim}
use native.Mathlib.Nat.{mul-div-le}
use native.Mathlib.Omega.{arith}
use lib.Dec.{eqb, ltb}
use lib.IntN.{nat_abs}
use lib.Ieee.{Float}
use lib.ListN.{length}
use borrow.Author.Tests.{ltb-false, eqb-false, eqb-true, not-false}
use Rattle.refusal.specs.declared.Refusal.TheVariants.{Unsupported as TypeUnsupported, TableUnfit}
use Rattle.daf.specs.Addresses.{whole_doubles}
use Rattle.daf.specs.declared.Family.{Family}
use Rattle.interp.specs.Window.{window_size}
use Rattle.segment.specs.Kinds.{form_of, trailer_at, kind_with, kind_at, kind_of, same_kind}
use Rattle.segment.specs.Malformed.{limit_nan, misplaced, length_of, trailer_size, bad_size, bad_interval, overruns, bad_records, bad_length, bad_states, bad_trailer, bad_data, bad_form, malformed, malformed_in, kind_in, found}
use Rattle.segment.specs.Evaluating.{unsupported, unfit, evaluated}
use Rattle.segment.specs.Steps.{valued, Records, States, Sound}
use Rattle.segment.specs.declared.Form.{Form}
use Rattle.segment.specs.declared.Form.TheVariants.{Two, Three, Nine, Thirteen}
use Rattle.segment.specs.declared.Kind.{Kind}
use Rattle.segment.specs.declared.Trailer.{Trailer}
use Rattle.segment.specs.declared.Segment.{Segment}
use Rattle.std.proofs.Common.{Option, Some, None, Err}
use Rattle.segment.proofs.Tests.{or_first, or_second}
use Rattle.segment.proofs.Placed.{Placed, placed}
use Rattle.segment.proofs.Sizes.{record_size}
use Rattle.segment.proofs.Same.{same_kind_eq}

-- ---- whether it fits, by what the tests find

fails : (m x : Bool) (k : Kind) → cond m None (Some k) ≡ None → true ≡ (m || x)
fails true x k e = refl
fails false x k e = let z : ◌≡◌ {A = ℕ} 0 1 = cc in absurd (omega arith)

makes : (m : Bool) (k kind own : Kind) → cond m None (Some k) ≡ Some kind → not (same_kind kind own) ≡ (m || not (same_kind k own))
makes true k kind own e = let z : ◌≡◌ {A = ℕ} 0 1 = cc in absurd (omega arith)
makes false k kind own e = let q : kind ≡ k = cc in ap (λ (x : Kind). not (same_kind x own)) q

module _ (f : Family) (k : List ℕ) (s : Segment) where
  pub unfit_fails : found f k s ≡ None → true ≡ unfit f k s
  unfolding found unfit
  unfit_fails e = fails (malformed_in f k s) (not (same_kind (kind_in f k s) s.kind)) (kind_in f k s) e

  pub unfit_makes : (kind : Kind) → found f k s ≡ Some kind → not (same_kind kind s.kind) ≡ unfit f k s
  unfolding found unfit
  unfit_makes kind e = makes (malformed_in f k s) (kind_in f k s) kind s.kind e

-- ---- what is left of a trailer

-- the whole doubles of a kernel are within its bytes
doubles_within : (k : List ℕ) (e : ℕ) → e ≤ whole_doubles k → 8 * e ≤ length k
doubles_within k e h = let g = mul-div-le (length k) 8 in omega arith

-- of records: there is one, and the trailer follows after the last
pub records_fit_lem : (series : ℕ) (t : Trailer) (len : ℕ) → bad_records series t len ≡ false → (1 ≤ t.count) × (t.count * t.size + 4 ≤ len)
records_fit_lem series t len h =
    let over = or_second (bad_size series t.size || bad_interval t.init t.intlen) (overruns t.size t.count len) h in (
      some t.count (eqb-false t.count 0 (or_first (eqb t.count 0) (ltb len (t.count * t.size + 4)) over)),
      ltb-false len (t.count * t.size + 4) (or_second (eqb t.count 0) (ltb len (t.count * t.size + 4)) over),
    )
  where
    some : (n : ℕ) → (n ≡ 0 → ⊥) → 1 ≤ n
    some n h = omega arith

-- of states: there is one, and the length is that of N
pub states_fit : (least : ℕ) (t : Trailer) (len : ℕ) → bad_states least t len ≡ false → (1 ≤ t.count) × (len ≡ 7 * t.count + t.count / 100 + 2)
states_fit least t len h =
    let bad = or_first (bad_length t.count len) (ltb t.size least) (or_first (bad_length t.count len || ltb t.size least) (ltb 32 (window_size t.size t.count)) h) in
    let sum = 7 * t.count + t.count / 100 + 2 in (
      some t.count (eqb-false t.count 0 (or_first (eqb t.count 0) (not (eqb len sum)) bad)),
      eqb-true len sum (not-false (eqb len sum) (or_second (eqb t.count 0) (not (eqb len sum)) bad)),
    )
  where
    some : (n : ℕ) → (n ≡ 0 → ⊥) → 1 ≤ n
    some n h = omega arith

records_left : (series : ℕ) (k : List ℕ) (a e : ℕ) (t : Trailer) → 1 ≤ a → a ≤ e → e ≤ whole_doubles k → bad_records series t (length_of a e) ≡ false → Records series k a t
records_left series k a e t p q r h =
    let fit = records_fit_lem series t (length_of a e) h in
    let over = fit.1 in
    let within : 8 * e ≤ length k = doubles_within k e r in
    record {
      from = p;
      some = fit.0;
      size =
          record_size series t.size
          (or_first (bad_size series t.size) (bad_interval t.init t.intlen) (or_first (bad_size series t.size || bad_interval t.init t.intlen) (overruns t.size t.count (length_of a e)) h));
      within = omega arith;
    }

states_left : (least : ℕ) (k : List ℕ) (a e : ℕ) (t : Trailer) → 1 ≤ a → a ≤ e → e ≤ whole_doubles k → bad_states least t (length_of a e) ≡ false → States k a t.size t.count
states_left least k a e t p q r h =
    let fit = states_fit least t (length_of a e) h in
    let long = fit.1 in
    let within : 8 * e ≤ length k = doubles_within k e r in
    record {
      from = p;
      some = fit.0;
      window = ltb-false 32 (window_size t.size t.count) (or_second (bad_length t.count (length_of a e) || ltb t.size least) (ltb 32 (window_size t.size t.count)) h);
      within = omega arith;
    }

-- the same by the form
sound_form : (k : List ℕ) (form : Form) (a e : ℕ) (t : Trailer) → 1 ≤ a → a ≤ e → e ≤ whole_doubles k → bad_trailer form t (length_of a e) ≡ false
    → Sound k a (kind_with form t)
sound_form k Two a e t p q r h = records_left 3 k a e t p q r h
sound_form k Three a e t p q r h = records_left 6 k a e t p q r h
sound_form k Nine a e t p q r h = states_left 0 k a e t p q r h
sound_form k Thirteen a e t p q r h = states_left 1 k a e t p q r h

-- the data of a handled type, where none of the tests failed
pub data_right : (n m b : Bool) → (n || (m || b)) ≡ false → (m ≡ false) × (b ≡ false)
data_right true m b e = absurd (true≢false e)
data_right false true b e = absurd (true≢false e)
data_right false false b e = (refl, e)

-- a form, or none
pub some_form : (o : Option Form) → (o ≡ None) ⊎ ((form : Form) × (o ≡ Some form))
some_form None = inl refl
some_form (Some form) = inr (form, refl)

module _ (f : Family) (k : List ℕ) (s : Segment) where
  -- the kind is the trailer's
  pub own_kind : unfit f k s ≡ false → kind_in f k s ≡ s.kind
  unfolding unfit
  own_kind e = same_kind_eq (kind_in f k s) s.kind (not-false (same_kind (kind_in f k s) s.kind) (or_second (malformed_in f k s) (not (same_kind (kind_in f k s) s.kind)) e))

  -- so the type is handled
  pub own_form : unsupported s.kind ≡ false → unfit f k s ≡ false → (form : Form) × (form_of f s.data_type ≡ Some form)
  unfolding kind_of
  own_form u e =
      ⊎_elim (λ n. absurd (true≢false (ap unsupported (ap (λ (o : Option Form). kind_at k o (nat_abs s.end)) (sym n) ∙ own_kind e) ∙ u))) (λ y. y) (some_form (form_of f s.data_type))

  -- so every test was passed: the addresses are in order, and the trailer's numbers right
  pub passed_tests : unsupported s.kind ≡ false → unfit f k s ≡ false
      → (form : Form) × (form_of f s.data_type ≡ Some form) × Placed (whole_doubles k) s.start s.end × (bad_trailer form (trailer_at k form (nat_abs s.end)) (length_of (nat_abs s.start) (nat_abs s.end)) ≡ false)
      × (kind_with form (trailer_at k form (nat_abs s.end)) ≡ s.kind)
  unfolding unfit malformed kind_of
  passed_tests u e =
      let y = own_form u e in
      let d = data_right (limit_nan s.first s.last) (misplaced (whole_doubles k) s.start s.end) (bad_data k y.0 (nat_abs s.start) (nat_abs s.end))
      (ap (λ (o : Option Form). limit_nan s.first s.last || bad_form k o s.start s.end) (sym y.1) ∙ or_first (malformed_in f k s) (not (same_kind (kind_in f k s) s.kind)) e) in (
        y.0,
        y.1,
        placed (whole_doubles k) s.start s.end d.0,
        or_second (ltb (length_of (nat_abs s.start) (nat_abs s.end)) (trailer_size y.0)) _ d.1,
        ap (λ (o : Option Form). kind_at k o (nat_abs s.end)) (sym y.1) ∙ own_kind e,
      )

  -- a segment that fits
  pub fitting : unsupported s.kind ≡ false → unfit f k s ≡ false → Placed (whole_doubles k) s.start s.end × Sound k (nat_abs s.start) s.kind
  fitting u e =
      let t = passed_tests u e in
      let p = t.2 in (
        p,
        subst (λ (x : Kind). Sound k (nat_abs s.start) x) t.4
            (sound_form k t.0 (nat_abs s.start) (nat_abs s.end) (trailer_at k t.0 (nat_abs s.end)) p.from p.order p.within t.3),
      )

  -- ---- the evaluation

  module _ (i : ℕ) (et : Float) where
    pub evaluated_unsupported : unsupported s.kind ≡ true → Err (TypeUnsupported s.data_type) ≡ evaluated f k s i et
    unfolding evaluated
    evaluated_unsupported e = rw e

    pub evaluated_unfit : unsupported s.kind ≡ false → unfit f k s ≡ true → Err TableUnfit ≡ evaluated f k s i et
    unfolding evaluated
    evaluated_unfit e g = rw (e, g)

    pub evaluated_valued : (a : ℕ) → a ≡ nat_abs s.start → unsupported s.kind ≡ false → unfit f k s ≡ false → valued k a s.kind i et ≡ evaluated f k s i et
    unfolding evaluated valued
    evaluated_valued a q e g = rw (q, e, g)
