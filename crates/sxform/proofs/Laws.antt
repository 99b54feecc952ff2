-- What the definitions of state matrices say together. Assumes nothing.
use mathlib.Core.Path.{◌≡◌, refl}
use Rattle.frame.specs.Frame.{Matrix, transpose_of}
use Rattle.sxform.specs.Sxform.{sxform_of, inverse_of}

-- the inverse of a state matrix is that of the transposes
pub inverse_sxform : (r dr : Matrix) → inverse_of (sxform_of r dr) ≡ sxform_of (transpose_of r) (transpose_of dr)
inverse_sxform r dr = refl
