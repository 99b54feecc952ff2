-- The form of a type, by the tests of its number. Assumes nothing.
use mathlib.Core.Path.{◌≡◌}
use mathlib.Core.Bool.{true, false}
use lib.IntN.{ℤ, pos}
use Rattle.std.proofs.Common.{Some, None}
use Rattle.bits.specs.Same.{same_z}
use Rattle.daf.specs.declared.Family.{Family}
use Rattle.daf.specs.declared.Family.TheVariants.{Spk, Pck}
use Rattle.segment.specs.Kinds.{form_of}
use Rattle.segment.specs.declared.Form.TheVariants.{Two, Three, Nine, Thirteen}

pub form_two : (f : Family) (t : ℤ) → same_z t (pos 2) ≡ true → Some Two ≡ form_of f t
unfolding form_of
form_two Spk t e = rw e
form_two Pck t e = rw e

pub form_pck : (f : Family) (t : ℤ) → f ≡ Pck → same_z t (pos 2) ≡ false → None ≡ form_of f t
unfolding form_of
form_pck f t q e = rw (q, e)

module _ (f : Family) (t : ℤ) (q : f ≡ Spk) (a : same_z t (pos 2) ≡ false) where
  pub form_three : same_z t (pos 3) ≡ true → Some Three ≡ form_of f t
  unfolding form_of
  form_three b = rw (q, a, b)

  pub form_nine : same_z t (pos 3) ≡ false → same_z t (pos 9) ≡ true → Some Nine ≡ form_of f t
  unfolding form_of
  form_nine b c = rw (q, a, b, c)

  pub form_thirteen : same_z t (pos 3) ≡ false → same_z t (pos 9) ≡ false → same_z t (pos 13) ≡ true → Some Thirteen ≡ form_of f t
  unfolding form_of
  form_thirteen b c d = rw (q, a, b, c, d)

  pub form_other : same_z t (pos 3) ≡ false → same_z t (pos 9) ≡ false → same_z t (pos 13) ≡ false → None ≡ form_of f t
  unfolding form_of
  form_other b c d = rw (q, a, b, c, d)
