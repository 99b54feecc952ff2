-- Tests of the source against tests of the contracts: `||`, and a type's number, which the machine compares by its bits. Assumes nothing.
use Prim.Native.Nat.{ℕ}
use mathlib.Core.Path.{◌≡◌, refl, sym, ap, ◌∙◌}
use mathlib.Core.Bool.{Bool, true, false, not, ◌&&◌, ◌||◌, true≢false}
use lib.Dec.{T}
use lib.IntN.{ℤ, pos}
use lib.Ieee.{Float, nan, is_nan, ne}
use mir.Syntax.{w32}
use mir.Val.{SFits, of_z}
use borrow.Author.Tests.{eq-eqb, ne_eqb}
use Rattle.bits.specs.Same.{same_z}
use Rattle.bits.proofs.Nan.{is_number, is_nan_lem}
use Rattle.bits.proofs.Tests.{bits_same_z, by_test_lem}

-- an `||` that did not hold, and its halves
pub or_first : (a b : Bool) → (a || b) ≡ false → a ≡ false
or_first true b e = e
or_first false b e = refl

pub or_second : (a b : Bool) → (a || b) ≡ false → b ≡ false
or_second true b e = absurd (true≢false e)
or_second false b e = e

-- a type's number, by its bits
pub is_type : (t : ℤ) (n : ℕ) → SFits w32 t → SFits w32 (pos n) → of_z w32 t ≡ n → same_z t (pos n) ≡ true
is_type t n f g e = sym (bits_same_z t (pos n) f g) ∙ eq-eqb (of_z w32 t) n e

pub not_type : (t : ℤ) (n : ℕ) → SFits w32 t → SFits w32 (pos n) → (of_z w32 t ≡ n → ⊥) → same_z t (pos n) ≡ false
not_type t n f g h = sym (bits_same_z t (pos n) f g) ∙ ne_eqb (of_z w32 t) n h
