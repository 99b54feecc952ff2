-- `daf::trimmed` meets its contract: what is left of the bytes is the same after each turn. Assumes nothing.
use Rattle.std.proofs.Common.{rules, sym, ◌∙◌}
use native.Mathlib.Omega.{arith}
use Rattle.daf.proofs.Naming.{trimmed_none, trimmed_on, trimmed_here}
use Rattle.daf.proofs.names.trimmed.Goals as goal
use Rattle.daf.proofs.names.trimmed.Goals.{then-bytes-lt1, in-len1-up+else-is_lost}

pub loop-bytes-preserved : goal.loop-bytes-preserved
loop-bytes-preserved g c = λ test h.
    trimmed_on test c.loop-bytes.bytes.now (omega arith) (sym (h _ _ c.is_lost.ensures) ∙ c.if-is_lost.true)
    ∙ c.loop-bytes.invariant test h

pub returns : goal.returns
returns g c = λ test h.
    elim c.if-bytes-lt1.branch [
      | then-bytes-lt1 w ↦ trimmed_none test c.loop-bytes.bytes.now (search rules) ∙ c.loop-bytes.invariant test h
      | in-len1-up+else-is_lost w ↦
          trimmed_here test c.loop-bytes.bytes.now (omega arith) (sym (h _ _ w.is_lost.ensures) ∙ w.if-is_lost.false)
          ∙ c.loop-bytes.invariant test h
    ]
