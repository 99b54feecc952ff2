-- `lines::Page::put_yes` meets its contract. Assumes nothing.
use mathlib.Core.Path.{sym, ap, subst}
use mathlib.Core.List.{List}
use Prim.Native.Nat.{ℕ}
use Rattle.lines.specs.Written.{Put}
use Rattle.lines.specs.Text.{yes_text}
use Rattle.lines.proofs.Page.put_yes.Goals as goal

pub returns-then-yes-clause-written : goal.returns-then-yes-clause-written
unfolding yes_text
returns-then-yes-clause-written c = subst (λ (l : List ℕ). Put c.args.self.now l c.put.new.self) (ap yes_text (sym c.if-yes.true)) c.put.ensures

pub returns-else-yes-clause-written : goal.returns-else-yes-clause-written
unfolding yes_text
returns-else-yes-clause-written c = subst (λ (l : List ℕ). Put c.args.self.now l c.put-else-yes.new.self) (ap yes_text (sym c.if-yes.false)) c.put-else-yes.ensures
