-- A segment that plainly fits: what the quick tests leave shows that none of the tests fails, and so what evaluating it results in. Assumes nothing.
use Prim.Native.Nat.{ℕ, ◌+◌, ◌*◌, ◌^◌, ◌≤◌, ◌<◌}
use mathlib.Core.Path.{◌≡◌, refl, sym, ap, ◌∙◌, subst}
use mathlib.Core.Bool.{true, false, false≢true}
use mathlib.Core.List.{List}
use native.Mathlib.Omega.{arith}
use lib.Dec.{eqb, ltb}
use lib.IntN.{nat_abs}
use lib.Ieee.{Float, nan, inf, fin, is_nan, le}
use borrow.Author.Tests.{le-ltb, ltb-false}
use Rattle.daf.specs.Addresses.{whole_doubles}
use Rattle.daf.specs.declared.Family.{Family}
use Rattle.segment.specs.Kinds.{form_of, records_at, trailer_at, kind_with, kind_at, kind_of, same_kind}
use Rattle.segment.specs.Malformed.{limit_nan, length_of, trailer_size, bad_size, bad_interval, overruns, bad_records, bad_trailer, malformed, malformed_in, kind_in}
use Rattle.segment.specs.Evaluating.{unsupported, unfit, evaluated}
use Rattle.segment.specs.Steps.{valued, Records, Sound, Plain}
use Rattle.std.proofs.Common.{Option, Some}
use Rattle.segment.specs.declared.Form.{Form}
use Rattle.segment.specs.declared.Form.TheVariants.{Two, Three}
use Rattle.segment.specs.declared.Kind.{Kind}
use Rattle.segment.specs.declared.Trailer.{Trailer}
use Rattle.segment.specs.declared.Segment.{Segment}
use Rattle.segment.proofs.Tests.{or_second}
use Rattle.segment.proofs.Numbers.{left_factor}
use Rattle.segment.proofs.Placed.{Placed}
use Rattle.segment.proofs.Fit.{records_fit_lem, fitting, evaluated_valued}
use Rattle.segment.proofs.Opened.{made_same}

-- limits that compare are numbers
pub ordered_limits : (a b : Float) → le a b ≡ true → limit_nan a b ≡ false
unfolding le is_nan
ordered_limits nan b e = absurd (false≢true e)
ordered_limits (inf s) nan e = absurd (false≢true e)
ordered_limits (inf s) (inf t) e = refl
ordered_limits (inf s) (fin t n d) e = refl
ordered_limits (fin s m e) nan h = absurd (false≢true h)
ordered_limits (fin s m e) (inf t) h = refl
ordered_limits (fin s m e) (fin t n d) h = refl

-- a trailer's numbers that passed each test pass all
pub numbers_pass : (series : ℕ) (t : Trailer) (len : ℕ) → bad_size series t.size ≡ false → bad_interval t.init t.intlen ≡ false → overruns t.size t.count len ≡ false
    → bad_records series t len ≡ false
numbers_pass series t len a b c = rw (a, b, c)

-- a count that doesn't overrun is at most the length, which has room for the trailer
pub count_small : (rsize n len : ℕ) → 1 ≤ rsize → overruns rsize n len ≡ false → (n ≤ len) × (4 ≤ len)
count_small rsize n len some h =
    let fit = ltb-false len (n * rsize + 4) (or_second (eqb n 0) (ltb len (n * rsize + 4)) h) in
    let count = left_factor n rsize some in
    (omega arith, omega arith)

-- ---- a form whose data are records of so many series

record OfRecords (form : Form) (series : ℕ) : Type 0 where
  four : trailer_size form ≡ 4
  read : (k : List ℕ) (e : ℕ) → trailer_at k form e ≡ records_at k e
  tests : (t : Trailer) (len : ℕ) → bad_trailer form t len ≡ bad_records series t len

of_two : OfRecords Two 3
unfolding trailer_at
of_two = record { four = refl; read = λ k e. refl; tests = λ t len. refl }

of_three : OfRecords Three 6
unfolding trailer_at
of_three = record { four = refl; read = λ k e. refl; tests = λ t len. refl }

module _ (f : Family) (k : List ℕ) (s : Segment) (form : Form) (series : ℕ) (t : Trailer) (o : OfRecords form series) (e : form_of f s.data_type ≡ Some form)
    (p : Plain series k s t) where
  -- the trailer that is read
  trailer_is : trailer_at k form (nat_abs s.end) ≡ t
  trailer_is = o.read k (nat_abs s.end) ∙ p.words

  -- no test fails
  no_test : malformed_in f k s ≡ false
  unfolding malformed
  no_test =
      rw (p.limits, e, p.places, o.four, le-ltb (length_of (nat_abs s.start) (nat_abs s.end)) 4 (omega (arith, (records_fit_lem series t _ p.numbers).1)), trailer_is, o.tests t (length_of (nat_abs s.start) (nat_abs s.end)), p.numbers)

  -- and the kind is the trailer's
  plain_fits : s.kind ≡ kind_with form t → unfit f k s ≡ false
  unfolding unfit kind_of
  plain_fits q =
      let same : kind_in f k s ≡ s.kind = ap (λ (x : Option Form). kind_at k x (nat_abs s.end)) e ∙ ap (kind_with form) trailer_is ∙ sym q in
      rw (no_test, subst (λ (x : Kind). same_kind (kind_in f k s) x ≡ true) same (made_same f k s no_test))

-- ---- what evaluating it needs

pub record Fitting (f : Family) (k : List ℕ) (s : Segment) (form : Form) (series : ℕ) (t : Trailer) : Type 0 where
  pub placed : Placed (whole_doubles k) s.start s.end
  pub records : Records series k (nat_abs s.start) t
  pub short : t.size < 2 ^ 31
  pub few : t.count < 2 ^ 31
  -- after refusals 12 and 14
  pub behind : (a i : ℕ) (et : Float) → a ≡ nat_abs s.start → valued k a (kind_with form t) i et ≡ evaluated f k s i et

module _ (f : Family) (k : List ℕ) (s : Segment) (t : Trailer) where
  -- a segment of this kind that fits and is supported, with what its kind leaves
  fitted : (form : Form) (series : ℕ) → Plain series k s t → s.kind ≡ kind_with form t → unsupported (kind_with form t) ≡ false → unfit f k s ≡ false
      → (Sound k (nat_abs s.start) (kind_with form t) → Records series k (nat_abs s.start) t) → Fitting f k s form series t
  fitted form series p q u fits sound =
      let supported = ap unsupported q ∙ u in
      let left = fitting f k s supported fits in
      record {
        placed = left.0;
        records = sound (subst (λ (x : Kind). Sound k (nat_abs s.start) x) q left.1);
        short = p.short;
        few = p.few;
        behind = λ a i et e. ap (λ (x : Kind). valued k a x i et) (sym q) ∙ evaluated_valued f k s i et a e supported fits;
      }

  pub two_fits : form_of f s.data_type ≡ Some Two → s.kind ≡ kind_with Two t → Plain 3 k s t → Fitting f k s Two 3 t
  two_fits e q p = fitted Two 3 p q refl (plain_fits f k s Two 3 t of_two e p q) (λ r. r)

  pub three_fits : form_of f s.data_type ≡ Some Three → s.kind ≡ kind_with Three t → Plain 6 k s t → Fitting f k s Three 6 t
  three_fits e q p = fitted Three 6 p q refl (plain_fits f k s Three 6 t of_three e p q) (λ r. r)
