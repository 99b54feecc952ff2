-- `cheby::type2_at` meets its contract: RADIUS is asked first.
use mathlib.Core.Path.{sym, ◌∙◌}
use Rattle.cheby.proofs.Record.{refused_where}
use Rattle.cheby.proofs.type2_at.Goals as goal

pub returns-then-no_radius : goal.returns-then-no_radius
returns-then-no_radius c = sym (refused_where _ _ _ _ (sym c.no_radius.ensures ∙ c.if-no_radius.true))
