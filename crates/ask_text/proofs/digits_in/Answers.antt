-- `ask_text::digits_in` meets its contract. The loop's invariant: the codes so far are digits, and v is their number, at most 2^31. Assumes nothing.
use mathlib.Core.Path.{refl, sym, ◌∙◌}
use native.Mathlib.Omega.{arith}
use borrow.Author.Tests.{eqb-true, eqb-false}
use Rattle.ask_text.proofs.FrameTexts.{reading_none, reading_next, no_digit, over, none_read, all_read}
use Rattle.ask_text.proofs.digits_in.Goals as goal

pub returns-then-is_empty : goal.returns-then-is_empty
returns-then-is_empty c = let empty = eqb-true _ _ (sym c.is_empty.ensures ∙ c.if-is_empty.true) in sym (none_read _ _ _ (reading_none _) (omega (arith, empty)) refl)

pub returns-then-not-is_ascii_digit : goal.returns-then-not-is_ascii_digit
returns-then-not-is_ascii_digit c =
    sym (no_digit _ _ _ c.loop-c.invariant (omega arith) (sym c.is_ascii_digit.ensures.value ∙ c.if-not-is_ascii_digit.true))

pub returns-then-v-gt2147483648 : goal.returns-then-v-gt2147483648
returns-then-v-gt2147483648 c =
    sym (over _ _ _ c.loop-c.invariant (omega arith) c.if-v-gt2147483648.true)

pub loop-c-preserved : goal.loop-c-preserved
loop-c-preserved c =
    reading_next _ _ _ c.loop-c.invariant (omega arith) (sym c.is_ascii_digit.ensures.value ∙ c.if-not-is_ascii_digit.false) c.if-v-gt2147483648.false

pub returns : goal.returns
returns c =
    let some = eqb-false _ _ (sym c.is_empty.ensures ∙ c.if-is_empty.false) in sym (all_read _ _ _ c.loop-c.invariant (omega arith) (omega (arith, some)))
