-- `ask_text::below` meets its contract. Assumes nothing.
use mathlib.Core.Path.{sym, ◌∙◌}
use Rattle.ask_text.proofs.FrameTexts.{digits_small, below_value, below_none, negated}
use Rattle.ask_text.proofs.below.Goals as goal

pub returns-in_err-digits_in : goal.returns-in_err-digits_in
returns-in_err-digits_in c = c.from_residual.ensures ∙ sym (below_none _ _ c.digits_in.ensures c.in_err-digits_in.was)

pub returns : goal.returns
returns c =
    negated c.in_ok-digits_in.field-0 c.checked_sub_unsigned.result (digits_small _ _ (sym c.digits_in.ensures ∙ c.in_ok-digits_in.was)) c.checked_sub_unsigned.ensures
    ∙ sym (below_value _ _ c.digits_in.ensures _ c.in_ok-digits_in.was)
