-- `daf::name` meets its contract: a law for each way through its tests. Assumes nothing.
use mathlib.Core.Path.{refl, sym, ◌∙◌}
use Rattle.std.proofs.Common.{rules}
use native.Mathlib.Omega.{arith}
use Rattle.daf.specs.Names.{is_nul, is_space}
use Rattle.daf.proofs.Naming.{name_past, name_other, name_part}
use Rattle.daf.proofs.name.Goals as goal
use Rattle.daf.proofs.name.Goals.{then-len-lt40-via-then-len-lt40, then-len-lt40-via-else-len-lt40+then-len-at}

pub returns-then-len-lt40 : goal.returns-then-len-lt40
returns-then-len-lt40 c =
    elim c.then-len-lt40.branch [
      | then-len-lt40-via-then-len-lt40 w ↦ sym (name_past _ _ (omega arith))
      | then-len-lt40-via-else-len-lt40+then-len-at w ↦ sym (name_past _ _ (omega arith))
    ]

pub returns-then-not-is_ascii : goal.returns-then-not-is_ascii
returns-then-not-is_ascii c = sym (name_other _ _ (omega arith) refl (sym c.is_ascii.ensures ∙ c.if-not-is_ascii.true))

pub returns : goal.returns
returns c =
    name_part _ _ (omega arith) refl (sym c.is_ascii.ensures ∙ c.if-not-is_ascii.false)
    (c.trimmed.ensures is_nul (λ b r p. search rules))
    (c.trimmed-2.ensures is_space (λ b r p. search rules))
