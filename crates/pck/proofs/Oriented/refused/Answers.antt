-- `pck::Oriented::refused` meets its contract. Assumes nothing.
use mathlib.Core.Path.{◌∙◌, ap}
use mathlib.Core.Bool.{false}
use lib.IntN.{pos}
use Rattle.frame.specs.declared.State.{State}
use Rattle.std.specs.Prelude.{Err}
use Rattle.pck.specs.Orienting.{oriented_of, refused_oriented}
use Rattle.pck.proofs.Oriented.refused.Goals as goal

pub returns : goal.returns
unfolding refused_oriented
returns c = c.new.ensures ∙ ap (λ (x : State). oriented_of (Err c.args.refusal) (pos 0) x false) c.zero.ensures
