-- `ask_text::frame_named` meets its contract. Assumes nothing.
use Prim.Native.Nat.{ℕ}
use mathlib.Core.Path.{sym, ap, ◌∙◌}
use mathlib.Core.List.{List}
use borrow.Author.Tests.{eqb-true, eqb-false}
use Rattle.ask_text.proofs.FrameTexts.{frame_minus, frame_unsigned, rest_whole}
use Rattle.ask_text.specs.FrameText.{digits_in, below}
use Rattle.ask_text.proofs.frame_named.Goals.{else-not-is_empty-via-then-not-is_empty+else-text-eq45, else-not-is_empty-via-else-not-is_empty}
use Rattle.ask_text.proofs.frame_named.Goals as goal

pub returns-then-text-eq45 : goal.returns-then-text-eq45
returns-then-text-eq45 c =
    let text = c.args.text.now in
    c.below.ensures ∙ ap (λ (l : List ℕ). below (digits_in l)) (rest_whole text)
    ∙ sym (frame_minus text (eqb-false _ _ (sym c.is_empty.ensures ∙ c.if-not-is_empty.true)) c.if-text-eq45.true)

pub returns-else-not-is_empty : goal.returns-else-not-is_empty
returns-else-not-is_empty c =
    c.above.ensures
    ∙ sym (frame_unsigned c.args.text.now
    (λ some e. elim c.else-not-is_empty.branch [
      | else-not-is_empty-via-then-not-is_empty+else-text-eq45 w ↦ w.if-text-eq45.false e
      | else-not-is_empty-via-else-not-is_empty w ↦ some (eqb-true _ _ (sym c.is_empty.ensures ∙ w.if-not-is_empty.false))
    ]))
