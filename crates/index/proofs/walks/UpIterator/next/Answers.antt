-- The entry names a number of those that are left, or none.
use Rattle.std.proofs.Common.{◌≡◌, ◌∙◌, List, ℕ, [], sym, subst}
use Rattle.std.specs.Iterator.{YieldsFirst}
use Rattle.index.proofs.Iterating.{up_left, up_over, progress}
use Rattle.index.proofs.walks.UpIterator.next.Goals as goal

pub returns-in_err-i-clause-steps : goal.returns-in_err-i-clause-steps
returns-in_err-i-clause-steps c =
    let s = c.self.inside in
    let none : c.args.self.now ≡ [] = sym c.self.view_is ∙ up_over s.links.now s.from s.count s.entry c.self.invariant.0 c.in_err-i.ensures in
    subst (λ r. YieldsFirst (λ (s : List ℕ). s) c.args.self.now r c.args.self.now) (sym c.from_residual.ensures) (none, none)

pub returns-clause-steps : goal.returns-clause-steps
returns-clause-steps c =
    let s = c.self.inside in
    sym c.self.view_is ∙ up_left s.links.now s.from s.count s.entry c.in_ok-i.i c.in_ok-i.ensures.0 c.in_ok-i.ensures.1 c.in_ok-i.ensures.2

pub returns-clause-goes : goal.returns-clause-goes
returns-clause-goes c = progress _ _ _ (returns-clause-steps c)
