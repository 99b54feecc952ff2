-- N never runs past the segment: what an evaluation reads lies between the segment's first double and its trailer. Assumes nothing.
use Prim.Native.Nat.{ℕ, ◌+◌, ◌-◌, ◌*◌, ◌≤◌}
use mathlib.Core.Path.{◌≡◌, subst}
use mathlib.Core.Bool.{false}
use mathlib.Core.List.{List}
use native.Mathlib.Omega.{arith}
use lib.IntN.{nat_abs}
use lib.Ieee.{Float}
use Rattle.daf.specs.Addresses.{byte_of}
use Rattle.daf.specs.declared.Family.{Family}
use Rattle.cheby.specs.Cheby.{record_for}
use Rattle.segment.specs.Kinds.{trailer_at, kind_with}
use Rattle.segment.specs.Malformed.{length_of, bad_records, bad_states, bad_trailer}
use Rattle.segment.specs.Evaluating.{unsupported, unfit, record_byte}
use Rattle.segment.specs.declared.Form.{Form}
use Rattle.segment.specs.declared.Form.TheVariants.{Two, Three, Nine, Thirteen}
use Rattle.segment.specs.declared.Kind.{Kind}
use Rattle.segment.specs.declared.Kind.TheVariants.{Unsupported, Type2, Type3, Type9, Type13}
use Rattle.segment.specs.declared.Trailer.{Trailer}
use Rattle.segment.specs.declared.Segment.{Segment}
use Rattle.segment.proofs.AfterTests.{record_below, record_ends}
use Rattle.segment.proofs.Fit.{records_fit_lem, states_fit, passed_tests}

-- The record for et starts at byte p, at the segment's first double or after it, and ends before the trailer of four doubles.
pub record RecordInside (a e p rsize : ℕ) : Type 0 where
  pub starts : byte_of a ≤ p
  pub ends : p + 8 * rsize ≤ byte_of (e - 3)

-- What an evaluation at et reads beside the trailer, in a segment from address a to address e: a record, or states and their epochs before the trailer of two.
abbrev pub Inside : ℕ → ℕ → Kind → Float → Type 0
Inside a e Unsupported et = ⊥
Inside a e (Type2 init intlen rsize n) et = RecordInside a e (record_byte a init intlen rsize n et) rsize
Inside a e (Type3 init intlen rsize n) et = RecordInside a e (record_byte a init intlen rsize n et) rsize
Inside a e (Type9 d n) et = byte_of a + 56 * n ≤ byte_of (e - 1)
Inside a e (Type13 d n) et = byte_of a + 56 * n ≤ byte_of (e - 1)

record_inside : (series a e : ℕ) (t : Trailer) (et : Float) → 1 ≤ a → a ≤ e → bad_records series t (length_of a e) ≡ false
    → RecordInside a e (record_byte a t.init t.intlen t.size t.count et) t.size
record_inside series a e t et p q h =
    let facts = records_fit_lem series t (length_of a e) h in
    let r = record_for t.init t.intlen et t.count in
    let ends = record_ends t.size r t.count (record_below t.init t.intlen et t.count facts.0) in
    let over = facts.1 in
    record { starts = omega arith; ends = omega arith }

states_inside : (least a e : ℕ) (t : Trailer) → 1 ≤ a → a ≤ e → bad_states least t (length_of a e) ≡ false → byte_of a + 56 * t.count ≤ byte_of (e - 1)
states_inside least a e t p q h = let long = (states_fit least t (length_of a e) h).1 in omega arith

inside_form : (form : Form) (a e : ℕ) (t : Trailer) (et : Float) → 1 ≤ a → a ≤ e → bad_trailer form t (length_of a e) ≡ false → Inside a e (kind_with form t) et
inside_form Two a e t et p q h = record_inside 3 a e t et p q h
inside_form Three a e t et p q h = record_inside 6 a e t et p q h
inside_form Nine a e t et p q h = states_inside 0 a e t p q h
inside_form Thirteen a e t et p q h = states_inside 1 a e t p q h

-- **inside**: an evaluation that is not refused with 12 or 14 reads its own segment alone, whatever the table says.
pub inside : (f : Family) (k : List ℕ) (s : Segment) (et : Float) → unsupported s.kind ≡ false → unfit f k s ≡ false
    → Inside (nat_abs s.start) (nat_abs s.end) s.kind et
inside f k s et u e =
    let t = passed_tests f k s u e in
    subst (λ (x : Kind). Inside (nat_abs s.start) (nat_abs s.end) x et) t.4
    (inside_form t.0 (nat_abs s.start) (nat_abs s.end) (trailer_at k t.0 (nat_abs s.end)) et t.2.from t.2.order t.3)
