-- `ask_text::put_answer` meets its contract, way by way. Assumes nothing.
use mathlib.Core.Path.{◌≡◌, sym, ap, subst}
use mathlib.Core.List.{List}
use Prim.Native.Nat.{ℕ}
use Rattle.lines.specs.Written.{Put}
use Rattle.spk.specs.declared.Answer.{Answer}
use Rattle.spk.specs.declared.Way.{Way}
use Rattle.ask_text.specs.Lines.{way_line, answer_text}
use Rattle.ask_text.proofs.put_answer.Goals as goal

-- the line of an answer whose way is known
by_way : (i : ℕ) (a : Answer) {w : Way} → a.way ≡ w → way_line i w a.given ≡ answer_text i a
unfolding answer_text
by_way i a e = sym (ap (λ (w : Way). way_line i w a.given) e)

pub returns-in-Same-clause-written : goal.returns-in-Same-clause-written
unfolding way_line
returns-in-Same-clause-written c =
    subst (λ (l : List ℕ). Put c.args.page.now l c.put_word_line.new.page) (by_way c.args.i c.args.answer c.in-Same.is) c.put_word_line.ensures.written

pub returns-in-Forward-clause-written : goal.returns-in-Forward-clause-written
unfolding way_line
returns-in-Forward-clause-written c =
    subst (λ (l : List ℕ). Put c.args.page.now l c.put_named_line.new.page) (by_way c.args.i c.args.answer c.in-Forward.is) c.put_named_line.ensures.written

pub returns-in-Reversed-clause-written : goal.returns-in-Reversed-clause-written
unfolding way_line
returns-in-Reversed-clause-written c =
    subst (λ (l : List ℕ). Put c.args.page.now l c.put_named_line-in-Reversed.new.page) (by_way c.args.i c.args.answer c.in-Reversed.is) c.put_named_line-in-Reversed.ensures.written

pub returns-in-Chained-clause-written : goal.returns-in-Chained-clause-written
unfolding way_line
returns-in-Chained-clause-written c =
    subst (λ (l : List ℕ). Put c.args.page.now l c.put_word_line-in-Chained.new.page) (by_way c.args.i c.args.answer c.in-Chained.is) c.put_word_line-in-Chained.ensures.written

pub returns-in-Refused-clause-written : goal.returns-in-Refused-clause-written
unfolding way_line
returns-in-Refused-clause-written c =
    subst (λ (l : List ℕ). Put c.args.page.now l c.put_numbered_refusal.new.self) (by_way c.args.i c.args.answer c.in-Refused.is) c.put_numbered_refusal.ensures.written
