-- Worked cases (RULES, "Worked numbers"), closed by computation: the numbers of a trailer, addresses, and a table that was forged.
use Rattle.std.specs.Prelude.{ℕ, ◌^◌, ◌≡◌, refl, Bool, true, false, List, [], ◌∷◌, ◌++◌, map, ℤ, pos, negsuc, take, Float, Some, None, Result, Ok, Err}
use Rattle.std.specs.Float.{nan, inf, fin, binary64}
use Rattle.std.specs.Float.Ieee.{is_nan, lt, eq, neg, sub, mul, div, of_int, of_bits, to_unsigned}
use Rattle.bits.specs.F64.{+0, whole}
use Rattle.bits.specs.Bytes.{le32, le64}
use Rattle.bits.specs.Record.{floor_of, into, record_of, beside, reach_of}
use Rattle.bits.specs.Same.{same}
use Rattle.refusal.specs.declared.Refusal.TheVariants.{Unsupported as TypeUnsupported, TableUnfit, ZeroRadius}
use Rattle.daf.specs.declared.Family.{Family}
use Rattle.daf.specs.declared.Family.TheVariants.{Spk, Pck}
use Rattle.cheby.specs.Cheby.{series_at, slope_at, value_of, rate_of, record2, record_for, reach_for}
use Rattle.interp.specs.Window.{window_size}
use Rattle.segment.specs.Kinds.{form_of, whole_number, trailer_at, kind_of}
use Rattle.segment.specs.Malformed.{limit_nan, misplaced, bad_size, bad_interval, overruns, bad_length, bad_states, malformed}
use Rattle.segment.specs.Evaluating.{unfit, zero_radius, empty_window, state_at, reach_by, evaluated}
use Rattle.segment.specs.declared.Form.TheVariants.{Two, Three, Nine, Thirteen}
use Rattle.segment.specs.declared.Kind.{Kind}
use Rattle.segment.specs.declared.Kind.TheVariants.{Unsupported, Type2, Type3, Type9, Type13}
use Rattle.segment.specs.declared.Segment.{Segment}
use Rattle.segment.specs.declared.Valued.{Valued}
use Rattle.refusal.specs.declared.Refusal.{Refusal}

-- The forms of types 2, 3, 9, 13, 5 and -2 of an SPK.
pub spk_types : map (form_of Spk) (pos 2 ∷ pos 3 ∷ pos 9 ∷ pos 13 ∷ pos 5 ∷ negsuc 1 ∷ []) ≡ Some Two ∷ Some Three ∷ Some Nine ∷ Some Thirteen ∷ None ∷ None ∷ []
unfolding form_of
spk_types = refl

-- The same of a PCK.
pub pck_types : map (form_of Pck) (pos 2 ∷ pos 3 ∷ pos 9 ∷ pos 13 ∷ pos 5 ∷ negsuc 1 ∷ []) ≡ Some Two ∷ None ∷ None ∷ None ∷ None ∷ None ∷ []
unfolding form_of
pck_types = refl

-- 8.7, 99.9, 1e19, 2 ^ 64, infinity, NaN and -1 made whole.
pub wholes : map (λ (b : ℕ). whole_number (of_bits binary64 b))
    (0x4021_6666_6666_6666 ∷ 0x4058_f999_9999_999a ∷ 0x43e1_58e4_6091_3d00 ∷ 0x43f0_0000_0000_0000 ∷ 0x7ff0_0000_0000_0000 ∷ 0x7ff8_0000_0000_0000 ∷ 0xbff0_0000_0000_0000 ∷ [])
    ≡ 8 ∷ 99 ∷ 10000000000000000000 ∷ 0xffff_ffff_ffff_ffff ∷ 0xffff_ffff_ffff_ffff ∷ 0 ∷ 0 ∷ []
unfolding whole_number to_unsigned of_bits
wholes = refl

-- In a kernel of 9 doubles: addresses 1 to 9; 0 to 9; -1 to 9; 5 to 4; 1 to 10; 1 to 2 ^ 31 - 1; 1 to -1.
pub addresses : misplaced 9 (pos 1) (pos 9) ∷ misplaced 9 (pos 0) (pos 9) ∷ misplaced 9 (negsuc 0) (pos 9) ∷ misplaced 9 (pos 5) (pos 4) ∷ misplaced 9 (pos 1) (pos 10)
    ∷ misplaced 9 (pos 1) (pos 2147483647) ∷ misplaced 9 (pos 1) (negsuc 0) ∷ [] ≡ false ∷ true ∷ true ∷ true ∷ true ∷ true ∷ true ∷ []
addresses = refl

-- RSIZE 0, 2, 5, 6, 7, 8 and 2 ^ 64 - 1 with three series, 5, 8 and 14 with six.
pub sizes : map (bad_size 3) (0 ∷ 2 ∷ 5 ∷ 6 ∷ 7 ∷ 8 ∷ 0xffff_ffff_ffff_ffff ∷ []) ++ map (bad_size 6) (5 ∷ 8 ∷ 14 ∷ [])
    ≡ true ∷ true ∷ false ∷ true ∷ true ∷ false ∷ true ∷ true ∷ false ∷ false ∷ []
sizes = refl

-- INTLEN 10, infinity, NaN, +0, -0 and -10; INIT infinite and NaN.
pub intervals : map (bad_interval +0) (whole 10 ∷ inf false ∷ nan ∷ +0 ∷ fin true 0 (pos 0) ∷ fin true 5 (pos 1) ∷ []) ++ map (λ (init : Float). bad_interval init (whole 10)) (inf true ∷ nan ∷ [])
    ≡ false ∷ true ∷ true ∷ true ∷ true ∷ true ∷ true ∷ true ∷ []
unfolding lt of_int of_bits
intervals = refl

-- Two records of 5 doubles and the trailer take 14 doubles and not 13; 2 ^ 63 doubles twice do not wrap; N is not 0.
pub overrun : overruns 5 2 14 ∷ overruns 5 2 13 ∷ overruns (2 ^ 63) 2 14 ∷ overruns 5 0 14 ∷ [] ≡ false ∷ true ∷ true ∷ true ∷ []
overrun = refl

-- The length of 99, 100, 101 and 200 states; a directory that NAIF would not count at 100; no states.
pub lengths : bad_length 99 695 ∷ bad_length 100 703 ∷ bad_length 101 710 ∷ bad_length 200 1404 ∷ bad_length 100 702 ∷ bad_length 0 2 ∷ [] ≡ false ∷ false ∷ false ∷ false ∷ true ∷ true ∷ []
lengths = refl

-- N states of a degree, in a segment of the right length; the type's least degree comes first.
abbrev states : ℕ → ℕ → ℕ → ℕ → Bool
states least d n len = bad_states least (record { init = +0; intlen = +0; size = d; count = n }) len

-- Window 32 opens, 33 is refused; so does the largest degree with 32 states, and not with 33; a degree of 0 is refused in type 13 alone.
pub windows : states 0 31 40 282 ∷ states 0 32 40 282 ∷ states 0 0xffff_ffff_ffff_ffff 32 226 ∷ states 0 0xffff_ffff_ffff_ffff 33 233 ∷ states 0 0 40 282 ∷ states 1 0 40 282 ∷ []
    ≡ false ∷ true ∷ false ∷ true ∷ false ∷ true ∷ []
unfolding window_size
windows = refl

-- A limit that is NaN.
pub limits : limit_nan +0 (whole 10) ∷ limit_nan nan (whole 10) ∷ limit_nan +0 nan ∷ [] ≡ false ∷ true ∷ true ∷ []
unfolding is_nan of_int of_bits
limits = refl

-- ---- a kernel that holds one segment and nothing else, of 9 doubles: MID 5, a RADIUS, the coefficients 1, 2, 3; INIT 0, INTLEN 10, RSIZE 5, N 1

-- The double whose last two bytes these are.
abbrev double : ℕ → ℕ → List ℕ
double a b = 0 ∷ 0 ∷ 0 ∷ 0 ∷ 0 ∷ 0 ∷ a ∷ b ∷ []

abbrev pub kernel : List ℕ → List ℕ
kernel radius =
    double 0x14 0x40 ++ radius ++ double 0xf0 0x3f ++ double 0 0x40 ++ double 0x08 0x40 ++ double 0 0 ++ double 0x24 0x40 ++ double 0x14 0x40 ++ double 0xf0 0x3f

-- A segment of this type, addresses and kind.
abbrev pub segment : ℤ → ℤ → ℤ → Kind → Segment
segment t start end kind =
    record {
      target = pos 399;
      center = pos 3;
      frame = pos 1;
      data_type = t;
      start = start;
      end = end;
      first = +0;
      last = whole 10;
      name_at = 0;
      marked = true;
      kind = kind;
    }

-- Evaluated at 7, as segment number 4.
abbrev pub at7 : Family → List ℕ → Segment → Result Valued Refusal
at7 f k s = evaluated f k s 4 (whole 7)

-- The kind that is there.
abbrev pub own : Kind
own = Type2 +0 (whole 10) 5 1

-- One coefficient gives itself, and derivative +0.
abbrev pub gives : Bool → Valued
gives b = record { state = record { x = whole 1; y = whole 2; z = whole 3; vx = +0; vy = +0; vz = +0 }; stretched = b }

-- An SPK's and a PCK's.
pub answers : at7 Spk (kernel (double 0x14 0x40)) (segment (pos 2) (pos 1) (pos 9) own) ∷ at7 Pck (kernel (double 0x14 0x40)) (segment (pos 2) (pos 1) (pos 9) own) ∷ []
    ≡ Ok (gives false) ∷ Ok (gives false) ∷ []
unfolding evaluated unfit malformed kind_of form_of trailer_at whole_number zero_radius empty_window state_at reach_by reach_for reach_of beside record_for record_of into floor_of record2 value_of rate_of series_at slope_at same is_nan lt eq sub mul div of_int of_bits to_unsigned le32 le64
answers = refl

-- The one record of 0 to 10 at -0, at the right end, and before 0: at 10 it is stretched.
pub words : map (evaluated Spk (kernel (double 0x14 0x40)) (segment (pos 2) (pos 1) (pos 9) own) 4) (neg +0 ∷ whole 10 ∷ neg (whole 1) ∷ [])
    ≡ Ok (gives false) ∷ Ok (gives true) ∷ Ok (gives true) ∷ []
unfolding evaluated unfit malformed kind_of form_of trailer_at whole_number zero_radius empty_window state_at reach_by reach_for reach_of beside record_for record_of into floor_of record2 value_of rate_of series_at slope_at same is_nan lt eq neg sub mul div of_int of_bits to_unsigned le32 le64
words = refl

-- RADIUS +0 and -0.
pub no_radius : at7 Spk (kernel (double 0 0)) (segment (pos 2) (pos 1) (pos 9) own) ∷ at7 Spk (kernel (double 0 0x80)) (segment (pos 2) (pos 1) (pos 9) own) ∷ [] ≡ Err (ZeroRadius 4) ∷ Err (ZeroRadius 4) ∷ []
unfolding evaluated unfit malformed kind_of form_of trailer_at whole_number zero_radius empty_window state_at record_for record_of into floor_of record2 value_of rate_of series_at slope_at same is_nan lt eq sub mul div of_int of_bits to_unsigned le32 le64
no_radius = refl

-- A type that is not supported, whatever its number is.
pub unsupported_types : at7 Spk (kernel (double 0x14 0x40)) (segment (pos 2) (pos 1) (pos 9) Unsupported) ∷ at7 Pck [] (segment (negsuc 4) (pos 0) (pos 0) Unsupported) ∷ []
    ≡ Err (TypeUnsupported (pos 2)) ∷ Err (TypeUnsupported (negsuc 4)) ∷ []
unfolding evaluated
unsupported_types = refl

-- Forged: another kind; another number; INIT -0; another type number; other addresses; a kernel cut short; type 3 in a PCK.
pub forged : map (at7 Spk (kernel (double 0x14 0x40)))
    (segment (pos 2) (pos 1) (pos 9) (Type3 +0 (whole 10) 5 1) ∷ segment (pos 2) (pos 1) (pos 9) (Type9 5 1) ∷ segment (pos 2) (pos 1) (pos 9) (Type13 5 1)
    ∷ segment (pos 2) (pos 1) (pos 9) (Type2 +0 (whole 10) 5 2) ∷ segment (pos 2) (pos 1) (pos 9) (Type2 (fin true 0 (pos 0)) (whole 10) 5 1) ∷ segment (pos 3) (pos 1) (pos 9) own
    ∷ segment (pos 5) (pos 1) (pos 9) own ∷ segment (pos 2) (pos 0) (pos 9) own ∷ segment (pos 2) (pos 2) (pos 9) own ∷ segment (pos 2) (pos 1) (pos 2147483647) own ∷ [])
    ++ at7 Spk (take 71 (kernel (double 0x14 0x40))) (segment (pos 2) (pos 1) (pos 9) own) ∷ at7 Pck (kernel (double 0x14 0x40)) (segment (pos 3) (pos 1) (pos 9) (Type3 +0 (whole 10) 5 1)) ∷ []
    ≡ map (λ (n : ℕ). Err TableUnfit) (0 ∷ 1 ∷ 2 ∷ 3 ∷ 4 ∷ 5 ∷ 6 ∷ 7 ∷ 8 ∷ 9 ∷ 10 ∷ 11 ∷ [])
unfolding evaluated unfit malformed kind_of form_of trailer_at whole_number same is_nan lt of_int of_bits to_unsigned le32 le64
forged = refl
