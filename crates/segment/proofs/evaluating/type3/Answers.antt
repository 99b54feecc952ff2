-- `segment::type3` meets its contract: the record lies within the kernel. Assumes nothing.
use Rattle.segment.proofs.AfterTests.{record_below, record_ends, at_byte, at_word, three_answered}
use Rattle.std.proofs.Common.{Ok}
use Rattle.cheby.specs.Cheby.{record_for}
use native.Mathlib.Omega.{arith}
use mathlib.Core.Path.{ap, ◌∙◌}
use Rattle.segment.proofs.evaluating.type3.Goals as goal

pub type3_at-requires : goal.type3_at-requires
type3_at-requires c =
    let a = c.args in
    let p = c.requires in
    let r = record_for a.t.init a.t.intlen a.et a.t.count in
    omega (
      arith,
      p.within,
      p.size,
      record_ends a.t.size r a.t.count (record_below a.t.init a.t.intlen a.et a.t.count p.some),
      at_byte c.record_place-at.ensures,
      c.coefficients-c.ensures,
    )

pub returns : goal.returns
returns c =
    let place = c.record_place-at.ensures in
    ap Ok c.of.ensures ∙ three_answered _ _ _ _ _ _ _ _ _ _ (at_byte place) _ _ (at_word place) c.coefficients-c.ensures c.type3_at.ensures
