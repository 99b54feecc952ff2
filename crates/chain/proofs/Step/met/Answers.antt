-- `chain::Step::met` meets its contract: an answer for each way. In an arm, `given.1` says which constructor the scan's value is.
use mathlib.Core.Path.{refl, sym, ◌∙◌}
use mir.Syntax.{w32}
use mir.ValLaws.{to_z-of_z}
use Rattle.chain.specs.declared.Step.TheVariants.{Blocked, Kept, Zero, Refused}
use Rattle.chain.proofs.Steps.{met_home, met_else}
use borrow.Author.Rules.{rules}
use Rattle.chain.proofs.Step.met.Goals as goal

pub returns-then-reaches_zero : goal.returns-then-reaches_zero
returns-then-reaches_zero c = met_home _ _ _ (sym c.reaches_zero.ensures ∙ c.if-reaches_zero.true)

pub returns-in-Blocked : goal.returns-in-Blocked
returns-in-Blocked c =
    let w = c.args in
    met_else _ _ _ Blocked _ (sym c.reaches_zero.ensures ∙ c.if-reaches_zero.false) c.in-Blocked.is (to_z-of_z w32 w.s.center (search rules)) refl

pub returns-in-Kept : goal.returns-in-Kept
returns-in-Kept c =
    let w = c.args in
    met_else _ _ _ (Kept _) (record { center = w.s.center; given = w.given }) (sym c.reaches_zero.ensures ∙ c.if-reaches_zero.false) c.in-Kept.is refl refl

pub returns-in-Zero : goal.returns-in-Zero
returns-in-Zero c =
    let w = c.args in
    met_else _ _ _ (Zero _) (record { center = w.s.center; given = w.given }) (sym c.reaches_zero.ensures ∙ c.if-reaches_zero.false) c.in-Zero.is refl refl

pub returns-in-Refused : goal.returns-in-Refused
returns-in-Refused c =
    let w = c.args in
    met_else _ _ _ (Refused _) (record { center = w.s.center; given = w.given }) (sym c.reaches_zero.ensures ∙ c.if-reaches_zero.false) c.in-Refused.is refl refl
