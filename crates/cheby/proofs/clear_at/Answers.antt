-- `cheby::clear_at` meets its contract: the pattern that was read is no NaN's. Assumes nothing.
use Prim.Native.Nat.{ℕ}
use mathlib.Core.Path.{ap, ◌∙◌}
use lib.Ieee.{binary64, is_nan}
use lib.Ieee.Bits.{nan_bits_is}
use Rattle.bits.specs.Bytes.{double_of}
use Rattle.bits.proofs.Nan.{no}
use Rattle.cheby.proofs.clear_at.Goals as goal

pub float_from_bits-result : goal.float_from_bits-result
float_from_bits-result c = no (nan_bits_is binary64 c.le_u64.result ∙ ap (λ (b : ℕ). is_nan (double_of b)) c.le_u64.ensures ∙ c.requires.1)
