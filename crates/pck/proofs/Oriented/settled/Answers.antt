-- `pck::Oriented::settled` meets its contract: an answer for each way. A signed number that is passed by itself is read back from its bits.
use mathlib.Core.Path.{◌∙◌, sym, ap}
use lib.IntN.{ℤ}
use mir.Syntax.{w32}
use mir.ValLaws.{to_z-of_z}
use Rattle.std.specs.Prelude.{Ok}
use Rattle.pck.specs.Orienting.{oriented_of}
use mathlib.Core.Bool.{true, false}
use Rattle.pck.proofs.Ways.{settled_refused, settled_state}
use borrow.Author.Rules.{rules}
use Rattle.pck.proofs.Oriented.settled.Goals as goal

pub returns-in-Err : goal.returns-in-Err
returns-in-Err c = c.refused.ensures ∙ sym (settled_refused _ _ _ c.in-Err.is)

pub returns-then-is_finite : goal.returns-then-is_finite
returns-then-is_finite c =
    c.new.ensures
    ∙ ap (λ (f : ℤ). oriented_of (Ok tt) f c.in-Ok.value.state c.in-Ok.value.stretched) (to_z-of_z w32 c.args.s.frame (search rules))
    ∙ sym (settled_state _ _ _ true c.in-Ok.is (sym c.is_finite.ensures ∙ c.if-is_finite.true))

pub returns-else-is_finite : goal.returns-else-is_finite
returns-else-is_finite c =
    c.refused-else-is_finite.ensures
    ∙ sym (settled_state _ _ _ false c.in-Ok.is (sym c.is_finite.ensures ∙ c.if-is_finite.false))
