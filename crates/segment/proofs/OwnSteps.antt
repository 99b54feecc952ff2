-- What a segment gives, over two kernels with the same doubles of it: its trailer, whether it fits, its record and its states. Assumes nothing.
use Prim.Native.Nat.{ℕ, ◌+◌, ◌-◌, ◌*◌, ◌≤◌, ◌<◌}
use mathlib.Core.Path.{◌≡◌, refl, sym, ap, ◌∙◌}
use mathlib.Core.Bool.{Bool, false, not, ◌||◌}
use mathlib.Core.List.{List}
use native.Mathlib.Omega.{arith}
use lib.Dec.{ltb}
use lib.IntN.{ℤ, pos, negsuc, nat_abs}
use lib.Signed.{lt_z}
use lib.Ieee.{Float, eq}
use borrow.Author.Tests.{ltb-false, le-ltb}
use Rattle.bits.specs.F64.{+0}
use Rattle.bits.specs.Bytes.{double_at}
use Rattle.bits.specs.Record.{is_stretched}
use Rattle.bits.proofs.Tests.{by_test_lem}
use Rattle.frame.specs.declared.State.{State}
use Rattle.daf.specs.Addresses.{byte_of, double_of_address, whole_doubles}
use Rattle.daf.specs.declared.Family.{Family}
use Rattle.cheby.specs.Cheby.{record_for}
use Rattle.cheby.proofs.Own.{type2_own, type3_own}
use Rattle.interp.proofs.Own.{alike_whole, reach_own, type9_own, type13_own}
use Rattle.segment.specs.Kinds.{form_of, trailer_at, kind_at, kind_of, same_kind}
use Rattle.segment.specs.Malformed.{limit_nan, misplaced, length_of, trailer_size, coefficients, bad_form, malformed}
use Rattle.segment.specs.Evaluating.{unfit, record_byte, zero_radius, state_in, state_at, reach_by, value_at}
use Rattle.segment.specs.Steps.{Sound}
use Rattle.std.proofs.Common.{Option, Some, None}
use Rattle.segment.specs.declared.Form.{Form}
use Rattle.segment.specs.declared.Form.TheVariants.{Two, Three, Nine, Thirteen}
use Rattle.segment.specs.declared.Kind.{Kind}
use Rattle.segment.specs.declared.Kind.TheVariants.{Unsupported, Type2, Type3, Type9, Type13}
use Rattle.segment.specs.declared.Segment.{Segment}
use Rattle.segment.specs.declared.Valued.{Valued}
use Rattle.segment.proofs.Placed.{placed}
use Rattle.segment.proofs.AfterTests.{valued_eq}
use Rattle.segment.proofs.Inside.{RecordInside, Inside}

-- ---- the trailer

module _ (k k' : List ℕ) (a e : ℕ)
    (same : (j : ℕ) → a ≤ j → j ≤ e → double_of_address k j ≡ double_of_address k' j) where
  pub trailer_own : (form : Form) → a ≤ e → trailer_size form ≤ length_of a e → trailer_at k form e ≡ trailer_at k' form e
  unfolding trailer_at
  trailer_own Two o h = rw (same (e - 3) (omega arith) (omega arith), same (e - 2) (omega arith) (omega arith), same (e - 1) (omega arith) (omega arith), same e (omega arith) (omega arith))
  trailer_own Three o h = rw (same (e - 3) (omega arith) (omega arith), same (e - 2) (omega arith) (omega arith), same (e - 1) (omega arith) (omega arith), same e (omega arith) (omega arith))
  trailer_own Nine o h = rw (same (e - 1) (omega arith) (omega arith), same e (omega arith) (omega arith))
  trailer_own Thirteen o h = rw (same (e - 1) (omega arith) (omega arith), same e (omega arith) (omega arith))

-- ---- whether it fits

-- the end of a segment that a kernel holds is not past its doubles
end_within : (whole : ℕ) (end : ℤ) → nat_abs end ≤ whole → lt_z (pos whole) end ≡ false
end_within w (pos e) h = le-ltb w e h
end_within w (negsuc e) h = refl

misplaced_own : (w w' : ℕ) (start end : ℤ) → nat_abs end ≤ w → nat_abs end ≤ w' → misplaced w start end ≡ misplaced w' start end
misplaced_own w w' start end h h' = ap (λ (b : Bool). lt_z start (pos 1) || lt_z end start || b) (end_within w end h ∙ sym (end_within w' end h'))

module _ (f : Family) (k k' : List ℕ) (s : Segment)
    (here : nat_abs s.end ≤ whole_doubles k) (there : nat_abs s.end ≤ whole_doubles k')
    (same : (j : ℕ) → nat_abs s.start ≤ j → j ≤ nat_abs s.end → double_of_address k j ≡ double_of_address k' j) where
  pub unfit_own : unfit f k s ≡ unfit f k' s
  unfolding unfit malformed kind_of
  unfit_own = by_test_lem (limit_nan s.first s.last) (λ y. rw y) (λ m. rw m (by (form_of f s.data_type)))
    where
      by : (o : Option Form) → (bad_form k o s.start s.end || not (same_kind (kind_at k o (nat_abs s.end)) s.kind)) ≡ (bad_form k' o s.start s.end || not (same_kind (kind_at k' o (nat_abs s.end)) s.kind))
      by None = refl
      by (Some form) =
          let len = length_of (nat_abs s.start) (nat_abs s.end) in
          let n = misplaced_own (whole_doubles k) (whole_doubles k') s.start s.end here there in
          by_test_lem (misplaced (whole_doubles k') s.start s.end) (λ p. rw (n, p))
          (λ p. by_test_lem (ltb len (trailer_size form)) (λ q. rw (n, p, q))
          (λ q. rw (n, trailer_own k k' (nat_abs s.start) (nat_abs s.end) same form (placed (whole_doubles k') s.start s.end p).order (ltb-false len (trailer_size form) q))))

-- ---- the record and the states

-- the word of types 2 and 3 is no double of the kernel's
with_word : (b : Bool) {x y : State} → x ≡ y → ◌≡◌ {A = Valued} (record { state = x; stretched = b }) (record { state = y; stretched = b })
with_word b e = valued_eq _ _ e refl

module _ (k k' : List ℕ) (a e : ℕ) (from : 1 ≤ a)
    (same : (j : ℕ) → a ≤ j → j ≤ e → double_of_address k j ≡ double_of_address k' j) where
  -- a double that starts at a whole number of doubles after the first
  at_double : (p j : ℕ) → p ≡ byte_of a + 8 * j → a + j ≤ e → double_at k p ≡ double_at k' p
  at_double p j q h =
      let there : p ≡ byte_of (a + j) = omega arith in
      ap (double_at k) there ∙ same (a + j) (omega arith) h ∙ sym (ap (double_at k') there)

  -- the doubles of a record that lies inside
  in_record : (r rsize : ℕ) → RecordInside a e (byte_of a + 8 * (rsize * r)) rsize → (j : ℕ) → j < rsize
      → double_at k (byte_of a + 8 * (rsize * r) + 8 * j) ≡ double_at k' (byte_of a + 8 * (rsize * r) + 8 * j)
  in_record r rsize h j l = let ends = h.ends in at_double _ (rsize * r + j) (omega arith) (omega arith)

  states_own : (n : ℕ) → byte_of a + 56 * n ≤ byte_of (e - 1) → (j : ℕ) → j < 7 * n → double_at k (byte_of a + 8 * j) ≡ double_at k' (byte_of a + 8 * j)
  states_own n h j l = at_double _ j refl (omega arith)

  pub value_own : (kind : Kind) (et : Float) → Sound k a kind → Inside a e kind et
      → (zero_radius k a kind et ≡ zero_radius k' a kind et) × (value_at k a kind et ≡ value_at k' a kind et)
  unfolding zero_radius state_at reach_by
  value_own Unsupported et s h = absurd s
  value_own (Type2 init intlen rsize n) et s h =
      let size = s.size in
      let r = record_for init intlen et n in (
        ap (λ (x : Float). eq x +0) (in_record r rsize h 1 (omega arith)),
        with_word _ (ap state_in (type2_own k k' (record_byte a init intlen rsize n et) (record_byte a init intlen rsize n et) (coefficients 3 rsize) et (λ j l. in_record r rsize h j (omega arith)))),
      )
  value_own (Type3 init intlen rsize n) et s h =
      let size = s.size in
      let r = record_for init intlen et n in
      (refl, with_word _ (type3_own k k' (record_byte a init intlen rsize n et) (record_byte a init intlen rsize n et) (coefficients 6 rsize) et (λ j l. in_record r rsize h j (omega arith))))
  value_own (Type9 d n) et s h = let same = alike_whole k k' (byte_of a) n d et (states_own n h) in (refl, valued_eq _ _ (type9_own same) (ap is_stretched (reach_own same s.some)))
  value_own (Type13 d n) et s h = let same = alike_whole k k' (byte_of a) n d et (states_own n h) in (refl, valued_eq _ _ (type13_own same s.some) (ap is_stretched (reach_own same s.some)))
