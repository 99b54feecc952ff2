-- `cheby::less_power` meets its contract: a difference is finite only where both numbers are. Assumes nothing.
use Prim.Native.Nat.{ℕ}
use mathlib.Core.Path.{sym, ap, ◌∙◌}
use lib.Ieee.{binary32, is_nan}
use Rattle.bits.specs.Bytes.{double_of}
use Rattle.cheby.proofs.Numbers.{less_finite}
use Rattle.cheby.proofs.less_power.Goals as goal

pub returns : goal.returns
returns c = λ h.
    let read = c.le_u64 in
    let p = less_finite binary32 c.args.kept c.power_of.result h in
    (p.0, ap (λ (b : ℕ). is_nan (double_of b)) (sym read.ensures) ∙ c.power_of.ensures p.1)
