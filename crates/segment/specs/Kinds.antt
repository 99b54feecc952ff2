-- The types that are handled, and the kind that a segment's trailer makes.
use Rattle.std.specs.Prelude.{ℕ, ◌-◌, Bool, cond, ◌&&◌, List, eqb, ℤ, pos, nat_abs, Float, Option, Some, None}
use Rattle.std.specs.Float.Ieee.{to_unsigned}
use Rattle.bits.specs.F64.{+0}
use Rattle.bits.specs.Same.{same, same_z}
use Rattle.daf.specs.Addresses.{double_of_address}
use Rattle.daf.specs.declared.Family.{Family}
use Rattle.daf.specs.declared.Family.TheVariants.{Spk, Pck}
use Rattle.segment.specs.declared.Form.{Form}
use Rattle.segment.specs.declared.Form.TheVariants.{Two, Three, Nine, Thirteen}
use Rattle.segment.specs.declared.Kind.{Kind}
use Rattle.segment.specs.declared.Kind.TheVariants.{Unsupported, Type2, Type3, Type9, Type13}
use Rattle.segment.specs.declared.Trailer.{Trailer}

-- The handled types: 2, 3, 9 and 13 of SPK, 2 alone of PCK.
unfoldable pub form_of : Family → ℤ → Option Form
form_of Spk t =
    cond (same_z t (pos 2)) (Some Two) (cond (same_z t (pos 3)) (Some Three) (cond (same_z t (pos 9)) (Some Nine) (cond (same_z t (pos 13)) (Some Thirteen) None)))
form_of Pck t = cond (same_z t (pos 2)) (Some Two) None

-- RSIZE, N and the degree are made whole by dropping the fraction: NaN and negatives give 0, values too large the largest of 64 bits.
unfoldable pub whole_number : Float → ℕ
whole_number x = to_unsigned 64 x

-- A trailer of no numbers.
abbrev pub no_trailer : Trailer
no_trailer = record { init = +0; intlen = +0; size = 0; count = 0 }

-- The last four doubles of types 2 and 3, the last of which has address e: INIT, INTLEN, RSIZE, N.
abbrev pub records_at : List ℕ → ℕ → Trailer
records_at k e =
    record {
      init = double_of_address k (e - 3);
      intlen = double_of_address k (e - 2);
      size = whole_number (double_of_address k (e - 1));
      count = whole_number (double_of_address k e);
    }

-- The numbers of types 9 and 13, degree and N; INIT and INTLEN are none of them.
abbrev pub states_trailer : ℕ → ℕ → Trailer
states_trailer d n = record { init = +0; intlen = +0; size = d; count = n }

-- The last two doubles of types 9 and 13.
abbrev pub states_at : List ℕ → ℕ → Trailer
states_at k e = states_trailer (whole_number (double_of_address k (e - 1))) (whole_number (double_of_address k e))

-- The trailer of data in this form whose last double has address e.
unfoldable pub trailer_at : List ℕ → Form → ℕ → Trailer
trailer_at k Two e = records_at k e
trailer_at k Three e = records_at k e
trailer_at k Nine e = states_at k e
trailer_at k Thirteen e = states_at k e

-- The kind of data in this form with this trailer.
abbrev pub kind_with : Form → Trailer → Kind
kind_with Two t = Type2 t.init t.intlen t.size t.count
kind_with Three t = Type3 t.init t.intlen t.size t.count
kind_with Nine t = Type9 t.size t.count
kind_with Thirteen t = Type13 t.size t.count

-- The kind of data whose last double has address e: unsupported, where the type is not handled.
abbrev pub kind_at : List ℕ → Option Form → ℕ → Kind
kind_at k None e = Unsupported
kind_at k (Some form) e = kind_with form (trailer_at k form e)

-- The kind of a segment of this type that ends at this address.
unfoldable pub kind_of : Family → List ℕ → ℤ → ℤ → Kind
kind_of f k t end = kind_at k (form_of f t) (nat_abs end)

-- The type of a kind, and its trailer.
abbrev pub type_in : Kind → ℕ
type_in Unsupported = 0
type_in (Type2 init intlen rsize n) = 2
type_in (Type3 init intlen rsize n) = 3
type_in (Type9 d n) = 9
type_in (Type13 d n) = 13

abbrev pub trailer_in : Kind → Trailer
trailer_in Unsupported = no_trailer
trailer_in (Type2 init intlen rsize n) = record { init = init; intlen = intlen; size = rsize; count = n }
trailer_in (Type3 init intlen rsize n) = record { init = init; intlen = intlen; size = rsize; count = n }
trailer_in (Type9 d n) = states_trailer d n
trailer_in (Type13 d n) = states_trailer d n

-- Two trailers are one: INIT and INTLEN by their bits.
abbrev pub same_trailer : Trailer → Trailer → Bool
same_trailer a b = same a.init b.init && same a.intlen b.intlen && eqb a.size b.size && eqb a.count b.count

-- Two kinds are one.
abbrev pub same_kind : Kind → Kind → Bool
same_kind a b = eqb (type_in a) (type_in b) && same_trailer (trailer_in a) (trailer_in b)
