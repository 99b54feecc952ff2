-- `spk::Answer::turned_to` meets its contract: a refusal stays, and any other answer is turned. Assumes nothing.
use mathlib.Core.Path.{◌∙◌, sym, ap₂}
use mathlib.Core.Bool.{true, false}
use lib.IntN.{ℤ}
use mir.Syntax.{w32}
use mir.ValLaws.{to_z-of_z}
use Rattle.frame.specs.declared.Turn.{Turn}
use Rattle.frame.specs.Framed.{turn_of}
use Rattle.spk.specs.Turning.{turned_by}
use Rattle.spk.proofs.Single.{turned_by_lem}
use borrow.Author.Rules.{rules}
use Rattle.spk.proofs.Answer.turned_to.Goals as goal

pub returns-then-is_refused : goal.returns-then-is_refused
returns-then-is_refused c = sym (turned_by_lem _ _ _ true (sym c.is_refused.ensures ∙ c.if-is_refused.true))

pub returns : goal.returns
returns c =
    let a = c.args in
    let same = to_z-of_z w32 a.to (search rules) in
    c.turned_by.ensures
    ∙ ap₂ (λ (t : Turn) (z : ℤ). turned_by t z a.rot a.self) (c.turn-turn.ensures ∙ ap₂ turn_of c.frame-from.ensures same) same
    ∙ sym (turned_by_lem a.to a.rot a.self false (sym c.is_refused.ensures ∙ c.if-is_refused.false))
