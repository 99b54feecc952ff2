-- `ask_text::above` meets its contract. Assumes nothing.
use mathlib.Core.Path.{sym, ap, ◌∙◌}
use mir.Syntax.{w32}
use Rattle.std.specs.Prelude.{Some}
use Rattle.std.proofs.lemmas.Int.{to_z_pos}
use Rattle.ask_text.proofs.FrameTexts.{above_value, above_large, above_none}
use Rattle.ask_text.proofs.above.Goals as goal

pub returns-in_err-v : goal.returns-in_err-v
returns-in_err-v c = c.from_residual.ensures ∙ sym (above_none _ _ c.digits_in.ensures c.in_err-v.was)

pub returns-then-v-lt2147483648 : goal.returns-then-v-lt2147483648
returns-then-v-lt2147483648 c =
    ap Some (to_z_pos w32 c.in_ok-v.v c.if-v-lt2147483648.true) ∙ sym (above_value _ _ c.digits_in.ensures _ c.in_ok-v.was c.if-v-lt2147483648.true)

pub returns-else-v-lt2147483648 : goal.returns-else-v-lt2147483648
returns-else-v-lt2147483648 c = sym (above_large _ _ c.digits_in.ensures _ c.in_ok-v.was c.if-v-lt2147483648.false)
