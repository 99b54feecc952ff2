-- The evaluation of one segment of a table, forged or not, on the kernel lent now.
use Rattle.std.specs.Prelude.{ℕ, ◌+◌, ◌*◌, Bool, true, false, not, ◌||◌, List, [], ◌∷◌, eqb, nat_abs, Float, Option, Some, None, Result, Ok, Err}
use Rattle.std.specs.Float.Ieee.{eq}
use Rattle.bits.specs.F64.{+0}
use Rattle.bits.specs.Bytes.{double_at}
use Rattle.bits.specs.Record.{is_stretched}
use Rattle.bits.specs.declared.Reach.{Reach}
use Rattle.bits.specs.declared.Reach.TheVariants.{Inside}
use Rattle.refusal.specs.declared.Refusal.TheVariants.{Unsupported as TypeUnsupported, TableUnfit, ZeroRadius, EmptyWindow}
use Rattle.refusal.specs.Order.{Case, case, first_of}
use Rattle.frame.specs.declared.State.{State}
use Rattle.frame.specs.State.{zero_state}
use Rattle.daf.specs.Addresses.{byte_of}
use Rattle.daf.specs.declared.Family.{Family}
use Rattle.cheby.specs.Cheby.{record_for, reach_for, type2_of, type3_of}
use Rattle.interp.specs.Window.{window_size}
use Rattle.interp.specs.Discrete.{reach_at, type9_of, type13_of}
use Rattle.segment.specs.Kinds.{same_kind}
use Rattle.segment.specs.Malformed.{coefficients, malformed_in, kind_in}
use Rattle.segment.specs.declared.Kind.{Kind}
use Rattle.segment.specs.declared.Kind.TheVariants.{Unsupported, Type2, Type3, Type9, Type13}
use Rattle.segment.specs.declared.Segment.{Segment}
use Rattle.segment.specs.declared.Valued.{Valued}
use Rattle.refusal.specs.declared.Refusal.{Refusal}

-- The kind is unsupported.
abbrev pub unsupported : Kind → Bool
unsupported Unsupported = true
unsupported (Type2 init intlen rsize n) = false
unsupported (Type3 init intlen rsize n) = false
unsupported (Type9 d n) = false
unsupported (Type13 d n) = false

-- The table's segment fails the tests of refusal 9 on this kernel, or its kind is not the one that the trailer makes. A kind that disagrees with
-- the type number, or is other than 2 in PCK, is none that a trailer of that type makes.
unfoldable pub unfit : Family → List ℕ → Segment → Bool
unfit f k s = malformed_in f k s || not (same_kind (kind_in f k s) s.kind)

-- The byte at which the record for et starts, in a segment whose first address is a.
abbrev pub record_byte : ℕ → Float → Float → ℕ → ℕ → Float → ℕ
record_byte a init intlen rsize n et = byte_of a + 8 * (rsize * record_for init intlen et n)

-- RADIUS, the second double of a record, is +0 or -0.
abbrev pub radius_zero : List ℕ → ℕ → Bool
radius_zero k p = eq (double_at k (p + 8)) +0

-- The record for et has no RADIUS: type 2 alone asks.
unfoldable pub zero_radius : List ℕ → ℕ → Kind → Float → Bool
zero_radius k a Unsupported et = false
zero_radius k a (Type2 init intlen rsize n) et = radius_zero k (record_byte a init intlen rsize n et)
zero_radius k a (Type3 init intlen rsize n) et = false
zero_radius k a (Type9 d n) et = false
zero_radius k a (Type13 d n) et = false

-- The window has no records: types 9 and 13 alone ask.
unfoldable pub empty_window : Kind → Bool
empty_window Unsupported = false
empty_window (Type2 init intlen rsize n) = false
empty_window (Type3 init intlen rsize n) = false
empty_window (Type9 d n) = eqb (window_size d n) 0
empty_window (Type13 d n) = eqb (window_size d n) 0

-- The state of a type 2 record; one without RADIUS was refused.
abbrev pub state_in : Option State → State
state_in (Some s) = s
state_in None = zero_state

-- The state at et of a segment of this kind whose first address is a; an unsupported kind was refused.
unfoldable pub state_at : List ℕ → ℕ → Kind → Float → State
state_at k a Unsupported et = zero_state
state_at k a (Type2 init intlen rsize n) et = state_in (type2_of k (record_byte a init intlen rsize n et) (coefficients 3 rsize) et)
state_at k a (Type3 init intlen rsize n) et = type3_of k (record_byte a init intlen rsize n et) (coefficients 6 rsize) et
state_at k a (Type9 d n) et = type9_of k (byte_of a) n d et
state_at k a (Type13 d n) et = type13_of k (byte_of a) n d et

-- Where et falls beside the records of a segment of this kind whose first address is a, or beside its epochs.
unfoldable pub reach_by : List ℕ → ℕ → Kind → Float → Reach
reach_by k a Unsupported et = Inside
reach_by k a (Type2 init intlen rsize n) et = reach_for init intlen et n
reach_by k a (Type3 init intlen rsize n) et = reach_for init intlen et n
reach_by k a (Type9 d n) et = reach_at k (byte_of a) n et
reach_by k a (Type13 d n) et = reach_at k (byte_of a) n et

-- A record was stretched to et: et is not inside.
abbrev pub stretched_at : List ℕ → ℕ → Kind → Float → Bool
stretched_at k a kind et = is_stretched (reach_by k a kind et)

-- What the segment gives: the state, and whether a record was stretched.
abbrev pub value_at : List ℕ → ℕ → Kind → Float → Valued
value_at k a kind et = record { state = state_at k a kind et; stretched = stretched_at k a kind et }

-- Refusals 13 and 16 of segment number i.
abbrev pub value_cases : List ℕ → ℕ → Kind → ℕ → Float → List Case
value_cases k a kind i et = case (zero_radius k a kind et) (ZeroRadius i) ∷ case (empty_window kind) (EmptyWindow i) ∷ []

-- Refusals 12, 14, 13 and 16, in their order.
abbrev pub cases : Family → List ℕ → Segment → ℕ → Float → List Case
cases f k s i et =
    case (unsupported s.kind) (TypeUnsupported s.data_type) ∷ case (unfit f k s) TableUnfit ∷ value_cases k (nat_abs s.start) s.kind i et

-- The evaluation at et of segment number i.
unfoldable pub evaluated : Family → List ℕ → Segment → ℕ → Float → Result Valued Refusal
evaluated f k s i et = first_of (cases f k s i et) Err (Ok (value_at k (nat_abs s.start) s.kind et))
