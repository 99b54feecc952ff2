-- `segment::plain_place` meets its contract: a record that is one of N starts within the kernel. Assumes nothing.
use native.Mathlib.Omega.{arith}
use mathlib.Core.Path.{refl, ◌∙◌}
use Rattle.segment.proofs.AfterTests.{chosen_ends, place_made}
use Rattle.segment.proofs.evaluating.plain_place.Goals as goal

pub of-requires : goal.of-requires
of-requires c =
    omega (arith, chosen_ends c.args.t c.args.et c.record_of_few.result c.record_of_few.ensures c.requires.1)

pub returns : goal.returns
returns c = c.of.ensures ∙ place_made c.args.start c.args.t c.args.et c.record_of_few.result _ c.record_of_few.ensures refl
