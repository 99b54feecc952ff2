-- What the small functions of the code do. No promise of an entry point needs these. Assumes nothing: these are definitions.
use Rattle.std.specs.Prelude.{ℕ, ◌+◌, ◌*◌, ◌^◌, ◌≤◌, ◌<◌, ◌≡◌, false, List, nat_abs, length, Float, Result, Ok, Err}
use Rattle.bits.specs.Record.{is_stretched}
use Rattle.refusal.specs.Order.{first_of}
use Rattle.daf.specs.Addresses.{byte_of, whole_doubles}
use Rattle.cheby.specs.Cheby.{reach_for}
use Rattle.interp.specs.Window.{window_size}
use Rattle.segment.specs.Kinds.{records_at}
use Rattle.segment.specs.Malformed.{limit_nan, misplaced, length_of, coefficients, bad_records}
use Rattle.segment.specs.declared.Kind.{Kind}
use Rattle.segment.specs.declared.Kind.TheVariants.{Unsupported, Type2, Type3, Type9, Type13}
use Rattle.segment.specs.declared.Trailer.{Trailer}
use Rattle.segment.specs.declared.Place.{Place}
use Rattle.segment.specs.declared.Segment.{Segment}
use Rattle.refusal.specs.declared.Refusal.{Refusal}
use Rattle.segment.specs.declared.Valued.{Valued}
use Rattle.segment.specs.Evaluating.{record_byte, value_at, value_cases}

-- After refusals 12 and 14.
unfoldable pub valued : List ℕ → ℕ → Kind → ℕ → Float → Result Valued Refusal
valued k a kind i et = first_of (value_cases k a kind i et) Err (Ok (value_at k a kind et))

-- Where the record for et starts, in a segment whose first address is a, and whether it is stretched to et.
abbrev pub place_of : ℕ → Trailer → Float → Place
place_of a t et =
    record { byte = record_byte a t.init t.intlen t.size t.count et; stretched = is_stretched (reach_for t.init t.intlen et t.count) }

-- What the tests leave of a trailer of so many series, in a segment whose first address is a: N records lie in the kernel from there on.
pub record Records (series : ℕ) (k : List ℕ) (a : ℕ) (t : Trailer) : Type 0 where
  pub from : 1 ≤ a
  pub some : 1 ≤ t.count
  pub size : t.size ≡ 2 + series * coefficients series t.size
  pub within : byte_of a + 8 * (t.count * t.size) ≤ length k

-- The same of N states and their epochs, with a window of 32 at most.
pub record States (k : List ℕ) (a d n : ℕ) : Type 0 where
  pub from : 1 ≤ a
  pub some : 1 ≤ n
  pub window : window_size d n ≤ 32
  pub within : byte_of a + 56 * n ≤ length k

-- By the kind.
abbrev pub Sound : List ℕ → ℕ → Kind → Type 0
Sound k a Unsupported = ⊥
Sound k a (Type2 init intlen rsize n) = Records 3 k a (record { init = init; intlen = intlen; size = rsize; count = n })
Sound k a (Type3 init intlen rsize n) = Records 6 k a (record { init = init; intlen = intlen; size = rsize; count = n })
Sound k a (Type9 d n) = States k a d n
Sound k a (Type13 d n) = States k a d n

-- What the quick tests leave of a segment with a trailer of so many series: no test fails, the trailer on this kernel is t, and its whole numbers are small.
pub record Plain (series : ℕ) (k : List ℕ) (s : Segment) (t : Trailer) : Type 0 where
  pub limits : limit_nan s.first s.last ≡ false
  pub places : misplaced (whole_doubles k) s.start s.end ≡ false
  pub numbers : bad_records series t (length_of (nat_abs s.start) (nat_abs s.end)) ≡ false
  pub words : records_at k (nat_abs s.end) ≡ t
  pub short : t.size < 2 ^ 31
  pub few : t.count < 2 ^ 31
