-- `ask_text::digits_in` meets its contract. The loop's invariant: the codes so far are digits, and v is their number, at most 2^31. Assumes nothing.
use Rattle.ask_text.proofs.FrameTexts.{Reading}
use Rattle.ask_text.proofs.digits_in.Given as goal

abbrev pub invariant-loop-c : goal.invariant-loop-c
invariant-loop-c l = Reading l.text l.c-index l.v
