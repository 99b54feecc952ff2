-- A signed number of 32 bits, widened to 64. Assumes nothing.
use mathlib.Core.Path.{◌≡◌, sym, ◌∙◌, subst}
use lib.IntN.{ℤ}
use mir.Syntax.{w32, w64}
use mir.Val.{SFits, to_z, of_z}
use mir.Facts.{to_z-of_z, sfits_widen}

-- it fits
pub whole_fits : (z : ℤ) → SFits w32 z → SFits w64 (to_z w32 (of_z w32 z))
whole_fits z f = subst (SFits w64) (sym (to_z-of_z f)) (sfits_widen tt f)

-- and is the same
pub whole : (z : ℤ) → SFits w32 z → to_z w64 (of_z w64 (to_z w32 (of_z w32 z))) ≡ z
whole z f = to_z-of_z (whole_fits z f) ∙ to_z-of_z f
