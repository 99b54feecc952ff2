-- `lines::Page::put_field` meets its contract: a space, then the number, which is widened. Assumes nothing.
use mathlib.Core.Path.{subst}
use mathlib.Core.List.{[], ◌∷◌, ◌++◌}
use lib.IntN.{ℤ}
use Rattle.refusal.proofs.Widened.{whole}
use Rattle.lines.specs.Text.{space, signed_text, field_text}
use Rattle.lines.specs.Written.{Put}
use Rattle.lines.proofs.Texts.{then}
use Rattle.lines.proofs.Page.put_field.Goals as goal

pub returns-clause-written : goal.returns-clause-written
unfolding field_text
returns-clause-written c =
    subst (λ (z : ℤ). Put c.args.self.now ((space ∷ []) ++ signed_text z) c.put_signed.new.self)
    (whole c.args.n c.ranges.n) (then c.put.ensures c.put_signed.ensures.written)
