-- `spk::reversed` meets its contract: an answer for each arm. Assumes nothing.
use mathlib.Core.Path.{◌∙◌, sym, ap}
use lib.IntN.{ℤ}
use mir.Syntax.{w32}
use mir.ValLaws.{to_z-of_z}
use Rattle.std.specs.Prelude.{Ok}
use Rattle.frame.specs.declared.Given.{Given}
use Rattle.frame.specs.Given.{given_of, negated_given}
use Rattle.chain.specs.Step.{yield_of}
use Rattle.spk.specs.declared.Way.TheVariants as ways
use Rattle.spk.specs.Answers.{settled}
use Rattle.spk.proofs.Settling.{settled_refused, negated_refused, negated_state_lem}
use borrow.Author.Rules.{rules}
use Rattle.spk.proofs.reversed.Goals as goal

pub returns-in-Err : goal.returns-in-Err
returns-in-Err c =
    c.refused.ensures
    ∙ sym (settled_refused _ _ _ (negated_refused _ _ (ap (yield_of c.args.s) (sym c.evaluate-e.ensures.value ∙ c.in-Err.is))))

pub returns-in-Ok : goal.returns-in-Ok
returns-in-Ok c =
    let a = c.args in
    let x = c.in-Ok.x in
    c.of.ensures
    ∙ ap (λ (g : Given). settled (ways.Reversed a.i) (Ok g))
    (c.negated.ensures ∙ ap negated_given (c.of-given.ensures ∙ ap (λ (z : ℤ). given_of x.state z x.stretched) (to_z-of_z w32 a.s.frame (search rules))))
    ∙ sym
    (ap (settled (ways.Reversed a.i))
    (negated_state_lem _ _
    (ap (yield_of a.s) (sym c.evaluate-e.ensures.value ∙ c.in-Ok.is))))
