-- A segment at et after refusals 12 and 14, one law for each way. Assumes nothing.
use Prim.Native.Nat.{ℕ, ◌+◌, ◌*◌, ◌≤◌, ◌<◌}
use mathlib.Core.Path.{◌≡◌, refl, sym, ap, ◌∙◌}
use mathlib.Core.Bool.{Bool, true, false}
use mathlib.Core.List.{List}
use native.Mathlib.Nat.{mul-le-mul_left, mul_comm, mul-suc, le_trans, le_of_eq}
use native.Mathlib.Omega.{arith}
use lib.Dec.{eqb}
use lib.Ieee.{Float}
use Rattle.bits.specs.Record.{is_stretched}
use Rattle.bits.specs.declared.Reach.{Reach}
use Rattle.bits.proofs.Whole.{record_lt}
use Rattle.refusal.specs.declared.Refusal.TheVariants.{ZeroRadius, EmptyWindow}
use Rattle.frame.specs.declared.State.{State}
use Rattle.daf.specs.Addresses.{byte_of}
use Rattle.cheby.specs.declared.Chosen.{Chosen}
use Rattle.std.proofs.Common.{Some, None, Ok, Err}
use Rattle.cheby.specs.Cheby.{record_for, reach_for, chosen_for, unless_zero, record2, type2_of, type3_of}
use Rattle.interp.specs.Window.{window_size}
use Rattle.interp.specs.Discrete.{reach_at, type9_of, type13_of}
use Rattle.segment.specs.Malformed.{coefficients}
use Rattle.segment.specs.Evaluating.{record_byte, radius_zero, zero_radius, empty_window, state_in, state_at, reach_by}
use Rattle.segment.specs.Steps.{valued, place_of}
use Rattle.segment.specs.declared.Kind.TheVariants.{Type2, Type3, Type9, Type13}
use Rattle.segment.specs.declared.Trailer.{Trailer}
use Rattle.segment.specs.declared.Place.{Place}
use Rattle.segment.specs.declared.Valued.{Valued}

-- ---- the record for et

-- it is one of N
pub record_below : (init intlen et : Float) (n : ℕ) → 1 ≤ n → record_for init intlen et n < n
unfolding record_for
record_below init intlen et n h = record_lt _ n h

-- so it ends where N records do, or before
pub record_ends : (size r n : ℕ) → r < n → size * r + size ≤ n * size
record_ends size r n h = le_trans (le_of_eq (sym (mul-suc size r))) (le_trans (mul-le-mul_left size h) (le_of_eq (mul_comm size n)))

-- the same of a record that was chosen
pub chosen_ends : (t : Trailer) (et : Float) (x : Chosen) → x ≡ chosen_for t.init t.intlen et t.count → 1 ≤ t.count → t.size * x.number + t.size ≤ t.count * t.size
chosen_ends t et x e h = record_ends t.size x.number t.count (rw e (record_below t.init t.intlen et t.count h))

-- ---- RADIUS

refused_is : (b : Bool) (a : State) → unless_zero b a ≡ None → b ≡ true
refused_is true a e = refl
refused_is false a e = let z : ◌≡◌ {A = ℕ} 0 1 = cc in absurd (omega arith)

value_is : (b : Bool) (a s : State) → unless_zero b a ≡ Some s → b ≡ false
value_is true a s e = let z : ◌≡◌ {A = ℕ} 0 1 = cc in absurd (omega arith)
value_is false a s e = refl

-- a record is refused where its RADIUS is zero
pub radius_zero_lem : (k : List ℕ) (p n : ℕ) (et : Float) → type2_of k p n et ≡ None → radius_zero k p ≡ true
unfolding record2
radius_zero_lem k p n et e = refused_is (radius_zero k p) _ e

pub radius_some : (k : List ℕ) (p n : ℕ) (et : Float) (s : State) → type2_of k p n et ≡ Some s → radius_zero k p ≡ false
unfolding record2
radius_some k p n et s e = value_is (radius_zero k p) _ s e

-- ---- the kinds

-- a value is its state and its word
pub valued_eq : (x y : Valued) → x.state ≡ y.state → x.stretched ≡ y.stretched → x ≡ y
valued_eq x y p q = λ i. record { state = p i; stretched = q i }

-- two places that are one have one byte and one word
pub at_byte : {x y : Place} → x ≡ y → x.byte ≡ y.byte
at_byte e = ap (λ (z : Place). z.byte) e

pub at_word : {x y : Place} → x ≡ y → x.stretched ≡ y.stretched
at_word e = ap (λ (z : Place). z.stretched) e

-- the place of a record that was chosen
pub place_made : (a : ℕ) (t : Trailer) (et : Float) (x : Chosen) (b : Bool) → x ≡ chosen_for t.init t.intlen et t.count → b ≡ is_stretched x.reach
    → ◌≡◌ {A = Place} (record { byte = byte_of a + 8 * (t.size * x.number); stretched = b }) (place_of a t et)
place_made a t et x b e q = λ i. record { byte = byte_of a + 8 * (t.size * (e i).number); stretched = (q ∙ ap (λ (y : Chosen). is_stretched y.reach) e) i }

module _ (k : List ℕ) (a i : ℕ) (et : Float) where
  module _ (init intlen : Float) (rsize n p c : ℕ) (at : p ≡ record_byte a init intlen rsize n et) where
    pub two_refused : c ≡ coefficients 3 rsize → type2_of k p c et ≡ None → Err (ZeroRadius i) ≡ valued k a (Type2 init intlen rsize n) i et
    unfolding valued zero_radius empty_window
    two_refused q e = rw (rw at at (radius_zero_lem k p c et e))

    -- the state, and where et falls beside the records
    module _ (s : State) (b : Bool) (reach : b ≡ is_stretched (reach_for init intlen et n)) where
      pub two_answered : c ≡ coefficients 3 rsize → type2_of k p c et ≡ Some s → Ok (record { state = s; stretched = b }) ≡ valued k a (Type2 init intlen rsize n) i et
      unfolding valued zero_radius empty_window state_at reach_by
      two_answered q e = rw (rw at at (radius_some k p c et s e)) (ap Ok (valued_eq _ _ (sym (ap state_in (rw (at, q) at e))) reach))

      pub three_answered : c ≡ coefficients 6 rsize → s ≡ type3_of k p c et → Ok (record { state = s; stretched = b }) ≡ valued k a (Type3 init intlen rsize n) i et
      unfolding valued zero_radius empty_window state_at reach_by
      three_answered q e = ap Ok (valued_eq _ _ (rw (at, q) at e) reach)

  pub nine_refused : (d n : ℕ) → eqb (window_size d n) 0 ≡ true → Err (EmptyWindow i) ≡ valued k a (Type9 d n) i et
  unfolding valued zero_radius empty_window
  nine_refused d n e = rw e

  pub thirteen_refused : (d n : ℕ) → eqb (window_size d n) 0 ≡ true → Err (EmptyWindow i) ≡ valued k a (Type13 d n) i et
  unfolding valued zero_radius empty_window
  thirteen_refused d n e = rw e

  -- the state, and where et falls beside the epochs
  module _ (d n : ℕ) (some : eqb (window_size d n) 0 ≡ false) (s : State) (r : Reach) (b : Bool) (at : r ≡ reach_at k (byte_of a) n et) (reach : b ≡ is_stretched r) where
    pub nine_answered : s ≡ type9_of k (byte_of a) n d et → Ok (record { state = s; stretched = b }) ≡ valued k a (Type9 d n) i et
    unfolding valued zero_radius empty_window state_at reach_by
    nine_answered e = rw some (ap Ok (valued_eq _ _ e (reach ∙ ap is_stretched at)))

    pub thirteen_answered : s ≡ type13_of k (byte_of a) n d et → Ok (record { state = s; stretched = b }) ≡ valued k a (Type13 d n) i et
    unfolding valued zero_radius empty_window state_at reach_by
    thirteen_answered e = rw some (ap Ok (valued_eq _ _ e (reach ∙ ap is_stretched at)))
