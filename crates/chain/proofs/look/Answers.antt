-- `chain::look` meets its contract: an answer for each way. Assumes nothing.
use mathlib.Core.Path.{◌∙◌, sym, ap}
use mir.Syntax.{w32}
use mir.ValLaws.{to_z-of_z}
use Rattle.chain.proofs.Steps.{given_in, look_seen, look_given}
use borrow.Author.Rules.{rules}
use Rattle.chain.proofs.look.Goals as goal

pub returns-in-Err : goal.returns-in-Err
returns-in-Err c = look_seen _ _ _ _ _ _ c.requires.1 (sym c.in-Err.ensures.value)

pub returns-in-Ok : goal.returns-in-Ok
returns-in-Ok c =
    look_given _ _ _ _ _ _ _ _ c.requires.1
    (sym c.in-Ok.ensures.value)
    (c.of.ensures ∙ given_in _ _ (to_z-of_z w32 c.args.s.frame (search rules))) c.met.ensures
