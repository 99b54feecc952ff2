-- `segment::whole_at` meets its contract: the double's pattern, and its whole part. Assumes nothing.
use Prim.Native.Nat.{ℕ}
use mathlib.Core.Path.{ap, ◌∙◌}
use Rattle.bits.specs.Bytes.{double_of}
use Rattle.segment.specs.Kinds.{whole_number}
use Rattle.segment.proofs.kinds.whole_at.Goals as goal

pub returns : goal.returns
unfolding whole_number
returns c = c.cut_bits.ensures ∙ ap (λ (b : ℕ). whole_number (double_of b)) c.le_u64.ensures
