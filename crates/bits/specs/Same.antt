-- When two doubles are the same number with the same sign.
use Rattle.std.specs.Prelude.{Bool, false, ◌&&◌, eqb, ℤ, pos, negsuc, Float}
use Rattle.std.specs.Bool.{beq}
use Rattle.std.specs.Float.{nan, inf, fin}

-- Two integers are the same.
abbrev pub same_z : ℤ → ℤ → Bool
same_z (pos a) (pos b) = eqb a b
same_z (pos a) (negsuc b) = false
same_z (negsuc a) (pos b) = false
same_z (negsuc a) (negsuc b) = eqb a b

-- The same infinity, or the same sign, digits and exponent; a NaN is the same as nothing, and -0 is not +0.
unfoldable pub same : Float → Float → Bool
same nan y = false
same (inf s) nan = false
same (inf s) (inf t) = beq s t
same (inf s) (fin t n d) = false
same (fin s m e) nan = false
same (fin s m e) (inf t) = false
same (fin s m e) (fin t n d) = beq s t && (eqb m n && same_z e d)
