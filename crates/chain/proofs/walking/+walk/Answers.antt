use Rattle.std.proofs.Common.{◌∙◌, sym, refl}
use Rattle.chain.proofs.Walked.{by_over, by_more}
use Rattle.chain.proofs.walking.+walk.Goals as goal

pub returns-then-is_over : goal.returns-then-is_over
returns-then-is_over g t c = λ s h. c.end_of.ensures ∙ by_over s c.args.at c.args.left (sym c.is_over.ensures ∙ c.if-is_over.true)

pub returns : goal.returns
returns g t c = λ s h.
    c.walk.ensures s h
    ∙ by_more s c.args.at c.args.left c.leg_of-leg.result c.step-met.result c.advance.result
    (sym c.is_over.ensures ∙ c.if-is_over.false) c.leg_of-leg.ensures (h _ _ _ refl c.step-met.ensures) c.advance.ensures
