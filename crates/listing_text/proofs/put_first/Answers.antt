-- `listing_text::put_first` meets its contract: the line of the plan's case. Assumes nothing.
use mathlib.Core.Path.{sym, subst}
use Rattle.lines.specs.Written.{Put}
use Rattle.listing_text.specs.Steps.{first_text}
use Rattle.listing_text.proofs.put_first.Goals as goal
use Rattle.opening.specs.Steps.{Plan}

pub returns-in-Ok-clause-written : goal.returns-in-Ok-clause-written
unfolding first_text
returns-in-Ok-clause-written c = subst (λ (y : Plan). Put c.args.page.now (first_text y) c.put_count.new.page) (sym c.in-Ok.is) c.put_count.ensures.written

pub returns-in-Err-clause-written : goal.returns-in-Err-clause-written
unfolding first_text
returns-in-Err-clause-written c = subst (λ (y : Plan). Put c.args.page.now (first_text y) c.put_refusal.new.self) (sym c.in-Err.is) c.put_refusal.ensures.written
