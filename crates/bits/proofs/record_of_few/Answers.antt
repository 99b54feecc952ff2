-- `bits::record_of_few` meets its contract: between 1 and n the whole part is a record's number, below 1 it is 0, and from n on it is past the last.
use mathlib.Core.Path.{◌≡◌, ap}
use mathlib.Core.Bool.{true}
use Prim.Native.Nat.{ℕ, ◌/◌, ◌^◌, ◌≤◌, ◌<◌}
use native.Mathlib.Omega.{arith}
use lib.Dec.{T}
use lib.Ieee.{Float, binary64, fits, of_bits, to_bits, to_unsigned, lt, le}
use lib.Ieee.Bits.{of_bits-to_bits}
use Rattle.bits.specs.F64.{one, whole}
use Rattle.bits.proofs.Few.{is_whole, above_one, part_one, part_none, part_below, part_from, placed}
use Rattle.bits.proofs.Nan.{yes}
use Rattle.bits.proofs.Whole.{record_cut}
use Rattle.bits.proofs.record_of_few.Goals as goal

part-under : (q y : Float) (n : ℕ) → n < 2 ^ 31 → 1 ≤ n → y ≡ whole n → lt q y ≡ true → to_unsigned 64 q < n
part-under q y n N P e h = part_below q y n P (is_whole y n (omega arith) e) h

-- the pattern of q is read as q
module _ (q : Float) (fit : T (fits binary64 q)) where
  same-part : to_unsigned 64 (of_bits binary64 (to_bits binary64 q)) ≡ to_unsigned 64 q
  same-part = ap (to_unsigned 64) (of_bits-to_bits binary64 q fit)

  -- so its exponent's field is that of a number from 1 on and below n
  fields : (y : Float) (n : ℕ) → n < 2 ^ 31 → 1 ≤ n → y ≡ whole n → le one q ≡ true → lt q y ≡ true
      → (to_bits binary64 q ≤ 0x7ff0_0000_0000_0000) × (1023 ≤ to_bits binary64 q / 2 ^ 52) × (to_bits binary64 q / 2 ^ 52 ≤ 1075)
  fields y n N P e lo hi = placed (to_bits binary64 q) (omega (arith, same-part, part_one q lo)) (omega (arith, same-part, part-under q y n N P e hi))

pub cut_whole-requires : goal.cut_whole-requires
cut_whole-requires c =
    fields c.args.q (yes c.well_formed.0.1) c.whole_double.result c.args.n c.requires.1 c.requires.0 c.whole_double.ensures c.if-q.true c.if-q-whole_double.true

pub returns-then-q-whole_double : goal.returns-then-q-whole_double
returns-then-q-whole_double c =
    let a = c.args in
    omega (
      arith,
      record_cut a.q a.n (omega arith),
      c.cut_whole.ensures,
      same-part a.q (yes c.well_formed.0.1),
      part-under a.q c.whole_double.result a.n c.requires.1 c.requires.0 c.whole_double.ensures c.if-q-whole_double.true,
    )

pub returns-else-q-whole_double : goal.returns-else-q-whole_double
returns-else-q-whole_double c =
    let a = c.args in
    omega (
      arith,
      record_cut a.q a.n (omega arith),
      part_from a.q c.whole_double.result a.n (omega arith) (is_whole c.whole_double.result a.n (omega arith) c.whole_double.ensures) (above_one a.q c.if-q.true) c.if-q-whole_double.false,
    )

pub returns-else-q : goal.returns-else-q
returns-else-q c = let a = c.args in omega (arith, record_cut a.q a.n (omega arith), part_none a.q c.if-q.false)
