-- `orient_text::put_oriented` meets its contract, outcome by outcome. Assumes nothing.
use mathlib.Core.Path.{◌≡◌, sym, ap, subst}
use mathlib.Core.List.{List}
use Prim.Native.Nat.{ℕ}
use Rattle.lines.specs.Written.{Put}
use Rattle.refusal.specs.declared.Refusal.{Refusal}
use Rattle.pck.specs.declared.Oriented.{Oriented}
use Rattle.std.specs.Prelude.{Result}
use Rattle.orient_text.specs.Lines.{outcome_text, oriented_text}
use Rattle.orient_text.proofs.put_oriented.Goals as goal

-- the line of an orientation whose outcome is known
by-outcome : (i : ℕ) (a : Oriented) {o : Result (Unit {0}) Refusal} → a.outcome ≡ o → outcome_text i a o ≡ oriented_text i a
unfolding oriented_text
by-outcome i a e = sym (ap (outcome_text i a) e)

pub returns-in-Ok-clause-written : goal.returns-in-Ok-clause-written
returns-in-Ok-clause-written c =
    subst (λ (l : List ℕ). Put c.args.page.now l c.put_turned.new.page) (by-outcome c.args.i c.args.a c.in-Ok.is) c.put_turned.ensures.written

pub returns-in-Err-clause-written : goal.returns-in-Err-clause-written
returns-in-Err-clause-written c =
    subst (λ (l : List ℕ). Put c.args.page.now l c.put_numbered_refusal.new.self) (by-outcome c.args.i c.args.a c.in-Err.is) c.put_numbered_refusal.ensures.written
