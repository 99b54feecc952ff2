-- Refusal 9: the tests of a segment over the kernel's bytes, in the order of RULES, "Opening". Whole numbers are mathematical: nothing wraps.
use Rattle.std.specs.Prelude.{ℕ, ◌+◌, ◌-◌, ◌*◌, ◌/◌, Bool, false, cond, not, ◌||◌, List, eqb, ltb, ℤ, pos, nat_abs, Float, Option, Some, None}
use Rattle.std.specs.Int.Signed.{lt_z}
use Rattle.std.specs.Float.Ieee.{is_nan, lt}
use Rattle.bits.specs.F64.{+0, finite}
use Rattle.daf.specs.Addresses.{whole_doubles}
use Rattle.daf.specs.declared.Family.{Family}
use Rattle.daf.specs.declared.Summary.{Summary}
use Rattle.interp.specs.Window.{window_size}
use Rattle.segment.specs.Kinds.{form_of, trailer_at, kind_of}
use Rattle.segment.specs.declared.Form.{Form}
use Rattle.segment.specs.declared.Form.TheVariants.{Two, Three, Nine, Thirteen}
use Rattle.segment.specs.declared.Kind.{Kind}
use Rattle.segment.specs.declared.Trailer.{Trailer}
use Rattle.segment.specs.declared.Segment.{Segment}

-- An epoch limit is NaN.
abbrev pub limit_nan : Float → Float → Bool
limit_nan first last = is_nan first || is_nan last

-- Start under 1, end under start, or end past the whole doubles of the kernel.
abbrev pub misplaced : ℕ → ℤ → ℤ → Bool
misplaced whole start end = lt_z start (pos 1) || lt_z end start || lt_z (pos whole) end

-- A segment's length: the doubles from address a to address e.
abbrev pub length_of : ℕ → ℕ → ℕ
length_of a e = e + 1 - a

-- How many doubles the trailer has.
abbrev pub trailer_size : Form → ℕ
trailer_size Two = 4
trailer_size Three = 4
trailer_size Nine = 2
trailer_size Thirteen = 2

-- C, the coefficients of one series in a record of RSIZE doubles, with `series` of them.
abbrev pub coefficients : ℕ → ℕ → ℕ
coefficients series rsize = (rsize - 2) / series

-- RSIZE is not 2 + series * C with C at least 1.
abbrev pub bad_size : ℕ → ℕ → Bool
bad_size series rsize = ltb (coefficients series rsize) 1 || not (eqb rsize (2 + series * coefficients series rsize))

-- INTLEN not above 0; INIT or INTLEN not finite.
abbrev pub bad_interval : Float → Float → Bool
bad_interval init intlen = not (lt +0 intlen) || not (finite init) || not (finite intlen)

-- N zero; N * RSIZE + 4 over the segment's length.
abbrev pub overruns : ℕ → ℕ → ℕ → Bool
overruns rsize n len = eqb n 0 || ltb len (n * rsize + 4)

-- Types 2 and 3, after the test for fewer than 4 doubles.
abbrev pub bad_records : ℕ → Trailer → ℕ → Bool
bad_records series t len = bad_size series t.size || bad_interval t.init t.intlen || overruns t.size t.count len

-- N zero; length not 7N + floor(N / 100) + 2.
abbrev pub bad_length : ℕ → ℕ → Bool
bad_length n len = eqb n 0 || not (eqb len (7 * n + n / 100 + 2))

-- Types 9 and 13, after the test for fewer than 2 doubles: their degree is at least 0 and 1.
abbrev pub bad_states : ℕ → Trailer → ℕ → Bool
bad_states least t len = bad_length t.count len || ltb t.size least || ltb 32 (window_size t.size t.count)

-- The numbers of a trailer, in a segment of this length: 3 series in type 2, 6 in type 3.
abbrev pub bad_trailer : Form → Trailer → ℕ → Bool
bad_trailer Two t len = bad_records 3 t len
bad_trailer Three t len = bad_records 6 t len
bad_trailer Nine t len = bad_states 0 t len
bad_trailer Thirteen t len = bad_states 1 t len

-- The data from address a to address e: fewer doubles than the trailer has, then the trailer's numbers.
abbrev pub bad_data : List ℕ → Form → ℕ → ℕ → Bool
bad_data k form a e = ltb (length_of a e) (trailer_size form) || bad_trailer form (trailer_at k form e) (length_of a e)

-- The tests of addresses and data, which the types that are not handled don't get.
abbrev pub bad_form : List ℕ → Option Form → ℤ → ℤ → Bool
bad_form k None start end = false
bad_form k (Some form) start end = misplaced (whole_doubles k) start end || bad_data k form (nat_abs start) (nat_abs end)

-- Refusal 9. Unsupported types get only the NaN test.
unfoldable pub malformed : Family → List ℕ → Float → Float → ℤ → ℤ → ℤ → Bool
malformed f k first last t start end = limit_nan first last || bad_form k (form_of f t) start end

-- A segment of a table is malformed on this kernel.
abbrev pub malformed_in : Family → List ℕ → Segment → Bool
malformed_in f k s = malformed f k s.first s.last s.data_type s.start s.end

-- The kind that this kernel's trailer makes of it.
abbrev pub kind_in : Family → List ℕ → Segment → Kind
kind_in f k s = kind_of f k s.data_type s.end

-- What the tests find: the kind that the trailer makes, or none where one of them fails.
unfoldable pub found : Family → List ℕ → Segment → Option Kind
found f k s = cond (malformed_in f k s) None (Some (kind_in f k s))

-- A summary's segment with this kind, unmarked.
abbrev pub segment_with : Summary → Kind → Segment
segment_with s kind =
    record {
      target = s.target;
      center = s.center;
      frame = s.frame;
      data_type = s.data_type;
      start = s.start;
      end = s.end;
      first = s.first;
      last = s.last;
      name_at = s.name_at;
      marked = false;
      kind = kind;
    }

-- The segment of a summary: its kind is what its trailer makes.
abbrev pub segment_of : Family → List ℕ → Summary → Segment
segment_of f k s = segment_with s (kind_of f k s.data_type s.end)

-- What a summary results in at the opening: its segment, or none where it is malformed.
unfoldable pub judged : Family → List ℕ → Summary → Option Segment
judged f k s =
    cond (malformed f k s.first s.last s.data_type s.start s.end) None (Some (segment_of f k s))
