-- `daf::file_record` meets its contract: a law for each way through its tests. Assumes nothing.
use Rattle.std.proofs.Common.{Ok}
use mathlib.Core.Path.{sym, ap, ◌∙◌}
use mathlib.Core.Bool.{not}
use native.Mathlib.Omega.{arith}
use Rattle.daf.proofs.Heading.{too_short, too_long_lem, other_id, other_format, other_shape, file_fine}
use Rattle.daf.proofs.file_record.Goals as goal

pub returns-then-len-lt-RECORD : goal.returns-then-len-lt-RECORD
returns-then-len-lt-RECORD c = sym (too_short _ _ c.if-len-lt-RECORD.true)

pub returns-then-len-gt1073741824 : goal.returns-then-len-gt1073741824
returns-then-len-gt1073741824 c = sym (too_long_lem _ _ c.if-len-gt1073741824.true)

pub returns-then-not-spells : goal.returns-then-not-spells
returns-then-not-spells c = sym (other_id _ _ (omega arith) (omega arith) (ap not (sym c.spells.ensures ∙ c.if-not-spells.true)))

pub returns-then-not-spells-2 : goal.returns-then-not-spells-2
returns-then-not-spells-2 c =
    sym
    (other_format _ _ (omega arith) (omega arith) (ap not (sym c.spells.ensures ∙ c.if-not-spells.false))
    (ap not (sym c.spells-2.ensures ∙ c.if-not-spells-2.true)))

pub returns-then-not-shaped : goal.returns-then-not-shaped
returns-then-not-shaped c =
    sym
    (other_shape _ _ (omega arith) (omega arith) (ap not (sym c.spells.ensures ∙ c.if-not-spells.false))
    (ap not (sym c.spells-2.ensures ∙ c.if-not-spells-2.false))
    (ap not (sym c.shaped.ensures ∙ c.if-not-shaped.true)))

pub returns : goal.returns
returns c =
    ap Ok c.le_u32.ensures
    ∙ sym
    (file_fine _ _ (omega arith) (omega arith) (ap not (sym c.spells.ensures ∙ c.if-not-spells.false))
    (ap not (sym c.spells-2.ensures ∙ c.if-not-spells-2.false))
    (ap not (sym c.shaped.ensures ∙ c.if-not-shaped.false)))
