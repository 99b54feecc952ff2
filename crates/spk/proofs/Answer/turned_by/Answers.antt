-- `spk::Answer::turned_by` meets its contract: an answer for each arm. Assumes nothing.
use mathlib.Core.Path.{◌∙◌, sym, ap, ap₂}
use lib.IntN.{ℤ}
use mir.Syntax.{w32}
use mir.ValLaws.{to_z-of_z}
use Rattle.frame.specs.declared.Given.{Given}
use Rattle.frame.specs.Frame.{Matrix}
use Rattle.frame.specs.Given.{turned_given}
use Rattle.std.proofs.Common.{Ok}
use Rattle.spk.specs.Answers.{settled}
use Rattle.spk.proofs.Single.{by_stands, by_forth, by_back, by_never}
use borrow.Author.Rules.{rules}
use Rattle.spk.proofs.Answer.turned_by.Goals as goal

pub returns-in-Stands : goal.returns-in-Stands
returns-in-Stands c = let a = c.args in sym (by_stands a.to a.rot a.self a.turn c.in-Stands.is)

pub returns-in-Forth : goal.returns-in-Forth
returns-in-Forth c =
    let a = c.args in
    c.of.ensures
    ∙ ap (λ (g : Given). settled a.self.way (Ok g))
    (c.turned.ensures ∙ ap (λ (z : ℤ). turned_given a.rot z a.self.given) (to_z-of_z w32 a.to (search rules)))
    ∙ sym (by_forth a.to a.rot a.self a.turn c.in-Forth.is)

pub returns-in-Back : goal.returns-in-Back
returns-in-Back c =
    let a = c.args in
    c.of-in-Back.ensures
    ∙ ap (λ (g : Given). settled a.self.way (Ok g))
    (c.turned-in-Back.ensures ∙ ap₂ (λ (m : Matrix) (z : ℤ). turned_given m z a.self.given) c.transpose-back.ensures (to_z-of_z w32 a.to (search rules)))
    ∙ sym (by_back a.to a.rot a.self a.turn c.in-Back.is)

pub returns-in-Never : goal.returns-in-Never
returns-in-Never c = let a = c.args in c.refused.ensures ∙ sym (by_never a.to a.rot a.self a.turn c.in-Never.is)
