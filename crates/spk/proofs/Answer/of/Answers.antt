-- `spk::Answer::of` meets its contract: an answer for each way. Assumes nothing.
use mathlib.Core.Path.{◌∙◌, sym, refl}
use mathlib.Core.Bool.{true, false}
use Rattle.spk.proofs.Settling.{settled_state}
use Rattle.spk.proofs.Answer.of.Goals as goal

pub returns-then-is_finite : goal.returns-then-is_finite
returns-then-is_finite c = c.new.ensures ∙ sym (settled_state _ _ _ true refl (sym c.is_finite.ensures ∙ c.if-is_finite.true))

pub returns-else-is_finite : goal.returns-else-is_finite
returns-else-is_finite c = c.refused.ensures ∙ sym (settled_state _ _ _ false refl (sym c.is_finite.ensures ∙ c.if-is_finite.false))
