-- A segment that the opening accepted fits the same kernel: no evaluation of it is refused with 14. Assumes nothing.
use Prim.Native.Nat.{ℕ}
use mathlib.Core.Path.{◌≡◌, refl, sym, ◌∙◌, subst}
use mathlib.Core.Bool.{Bool, true, false, cond, not, ◌||◌, true≢false}
use mathlib.Core.List.{List}
use native.Mathlib.Omega.{arith}
use lib.Dec.{eqb, ltb}
use lib.IntN.{nat_abs}
use lib.Ieee.{Float, lt, of_bits}
use borrow.Author.Tests.{eq-eqb, not-false}
use Rattle.bits.specs.F64.{+0, finite}
use Rattle.bits.specs.Same.{same}
use Rattle.bits.proofs.Finite.{finite_number}
use Rattle.bits.proofs.Order.{as_eq}
use Rattle.bits.proofs.Patterns.{same_self}
use Rattle.bits.proofs.Tests.{and_both}
use Rattle.refusal.specs.declared.Refusal.TheVariants.{TableUnfit}
use Rattle.daf.specs.Addresses.{whole_doubles}
use Rattle.daf.specs.declared.Family.{Family}
use Rattle.daf.specs.declared.Summary.{Summary}
use Rattle.segment.specs.Kinds.{form_of, no_trailer, trailer_at, kind_with, kind_at, kind_of, type_in, trailer_in, same_trailer, same_kind}
use Rattle.segment.specs.Malformed.{limit_nan, misplaced, length_of, trailer_size, bad_size, bad_interval, overruns, bad_records, bad_trailer, bad_data, bad_form, malformed, malformed_in, kind_in, segment_of, judged}
use Rattle.segment.specs.Evaluating.{unfit, evaluated}
use Rattle.segment.specs.declared.Form.{Form}
use Rattle.segment.specs.declared.Form.TheVariants.{Two, Three, Nine, Thirteen}
use Rattle.segment.specs.declared.Kind.{Kind}
use Rattle.segment.specs.declared.Kind.TheVariants.{Unsupported}
use Rattle.segment.specs.declared.Trailer.{Trailer}
use Rattle.segment.specs.declared.Segment.{Segment}
use Rattle.std.proofs.Common.{Option, Some, None, Err}
use Rattle.segment.proofs.Tests.{or_first, or_second}
use Rattle.segment.proofs.Fit.{data_right}
use Rattle.segment.proofs.Refusals.{exactly_14}

-- ---- a kind is the same as itself, where no number of it is NaN

finite_same : (x : Float) → finite x ≡ true → same x x ≡ true
finite_same x e = as_eq (same x x) (same_self x (finite_number x e))

zero_same : same +0 +0 ≡ true
unfolding same of_bits
zero_same = refl

trailer_same : (t : Trailer) → same t.init t.init ≡ true → same t.intlen t.intlen ≡ true → same_trailer t t ≡ true
trailer_same t p q = rw (p, q, eq-eqb t.size t.size refl, eq-eqb t.count t.count refl)

kind_same : (a : Kind) → same_trailer (trailer_in a) (trailer_in a) ≡ true → same_kind a a ≡ true
kind_same a e = and_both (eqb (type_in a) (type_in a)) (same_trailer (trailer_in a) (trailer_in a)) (eq-eqb (type_in a) (type_in a) refl) e

pub interval_finite : (init intlen : Float) → bad_interval init intlen ≡ false → (finite init ≡ true) × (finite intlen ≡ true)
interval_finite init intlen e =
    let above = not (lt +0 intlen) in (
      not-false (finite init) (or_second above (not (finite init)) (or_first (above || not (finite init)) (not (finite intlen)) e)),
      not-false (finite intlen) (or_second (above || not (finite init)) (not (finite intlen)) e),
    )

interval_same : (series : ℕ) (t : Trailer) (len : ℕ) → bad_records series t len ≡ false → same_trailer t t ≡ true
interval_same series t len h =
    let f = interval_finite t.init t.intlen
    (or_second (bad_size series t.size) (bad_interval t.init t.intlen) (or_first (bad_size series t.size || bad_interval t.init t.intlen) (overruns t.size t.count len) h)) in
    trailer_same t (finite_same t.init f.0) (finite_same t.intlen f.1)

same_itself : (form : Form) (t : Trailer) (len : ℕ) → bad_trailer form t len ≡ false → same_kind (kind_with form t) (kind_with form t) ≡ true
same_itself Two t len h = kind_same (kind_with Two t) (interval_same 3 t len h)
same_itself Three t len h = kind_same (kind_with Three t) (interval_same 6 t len h)
same_itself Nine t len h = kind_same (kind_with Nine t) (trailer_same (trailer_in (kind_with Nine t)) zero_same zero_same)
same_itself Thirteen t len h = kind_same (kind_with Thirteen t) (trailer_same (trailer_in (kind_with Thirteen t)) zero_same zero_same)

-- so is the kind that a trailer makes, where the segment is not malformed
pub made_same : (f : Family) (k : List ℕ) (s : Segment) → malformed_in f k s ≡ false → same_kind (kind_in f k s) (kind_in f k s) ≡ true
unfolding malformed kind_of
made_same f k s e = by (form_of f s.data_type) e
  where
    by : (o : Option Form) → (limit_nan s.first s.last || bad_form k o s.start s.end) ≡ false → same_kind (kind_at k o (nat_abs s.end)) (kind_at k o (nat_abs s.end)) ≡ true
    by None h = kind_same Unsupported (trailer_same no_trailer zero_same zero_same)
    by (Some form) h =
        same_itself form (trailer_at k form (nat_abs s.end)) (length_of (nat_abs s.start) (nat_abs s.end))
        (or_second (ltb (length_of (nat_abs s.start) (nat_abs s.end)) (trailer_size form)) _
        (data_right (limit_nan s.first s.last) (misplaced (whole_doubles k) s.start s.end) (bad_data k form (nat_abs s.start) (nat_abs s.end)) h).1)

-- ---- what the opening accepts

accepted : (m : Bool) (x s : Segment) → cond m None (Some x) ≡ Some s → (m ≡ false) × (x ≡ s)
accepted true x s e = let z : ◌≡◌ {A = ℕ} 0 1 = cc in absurd (omega arith)
accepted false x s e = (refl, cc)

-- An accepted summary is not malformed, and its segment is the definition's.
pub judged_right : (f : Family) (k : List ℕ) (sum : Summary) (s : Segment) → judged f k sum ≡ Some s
    → (malformed f k sum.first sum.last sum.data_type sum.start sum.end ≡ false) × (segment_of f k sum ≡ s)
unfolding judged
judged_right f k sum s e = accepted (malformed f k sum.first sum.last sum.data_type sum.start sum.end) (segment_of f k sum) s e

-- Its segment fits.
pub judged_fits : (f : Family) (k : List ℕ) (sum : Summary) (s : Segment) → judged f k sum ≡ Some s → unfit f k s ≡ false
unfolding unfit
judged_fits f k sum s e =
    let r = judged_right f k sum s e in
    subst (λ (x : Segment). (malformed_in f k x || not (same_kind (kind_in f k x) x.kind)) ≡ false) r.1 (rw (r.0, made_same f k (segment_of f k sum) r.0))

-- Two segments that differ at most in target, center, frame, name and mark.
pub record SameData (s t : Segment) : Type 0 where
  pub first : s.first ≡ t.first
  pub last : s.last ≡ t.last
  pub type : s.data_type ≡ t.data_type
  pub start : s.start ≡ t.start
  pub end : s.end ≡ t.end
  pub kind : s.kind ≡ t.kind

pub unfit_data : (f : Family) (k : List ℕ) {s t : Segment} → SameData s t → unfit f k s ≡ unfit f k t
unfolding unfit
unfit_data f k d = rw (d.first, d.last, d.type, d.start, d.end, d.kind)

-- They evaluate alike.
pub evaluated_data : (f : Family) (k : List ℕ) {s t : Segment} → SameData s t → (i : ℕ) (et : Float) → evaluated f k s i et ≡ evaluated f k t i et
unfolding evaluated
evaluated_data f k d i et = rw (unfit_data f k d, d.type, d.start, d.kind)

-- **opened-fits**, for one segment: on the kernel that it was opened from no evaluation of it is refused with 14, whatever its mark is.
pub opened_fits : (f : Family) (k : List ℕ) (sum : Summary) (s t : Segment) → judged f k sum ≡ Some s → SameData s t
    → (i : ℕ) (et : Float) → evaluated f k t i et ≡ Err TableUnfit → ⊥
opened_fits f k sum s t e d i et h = true≢false (sym ((exactly_14 f k t i et).1 h).1 ∙ sym (unfit_data f k d) ∙ judged_fits f k sum s e)
