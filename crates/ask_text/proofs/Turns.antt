-- The loop over the questions: the lines that are left at question i, with what is remembered there. Assumes nothing.
use mathlib.Core.Path.{◌≡◌, refl, sym, subst}
use Prim.Native.Nat.{ℕ, ◌+◌, ◌-◌, ◌<◌}
use mathlib.Core.List.{List}
use Rattle.std.proofs.Common.{ℤ, Option}
use Rattle.lines.specs.declared.Page.{Page}
use Rattle.lines.specs.Written.{Put}
use Rattle.lines.proofs.Texts.{Rest, Turns, next_turn}
use Rattle.frame.specs.Frame.{Matrix}
use Rattle.segment.specs.declared.Segment.{Segment}
use Rattle.chain.specs.Step.{Evaluation}
use Rattle.spk.specs.declared.Asked.{Asked}
use Rattle.spk.specs.Choosing.{Memory}
use Rattle.indexed.specs.Asking.{asked_in_with, run_with}
use Rattle.ask_text.specs.Records.{question_at}
use Rattle.ask_text.specs.Lines.{answer_text}
use Rattle.ask_text.specs.Text.{answers_text}
use Rattle.ask_text.specs.Steps.{turned_from}

module _ (limit : ℕ) (ev : Evaluation) (segs : List Segment) (n : ℕ) (ix : List ℕ) (wanted : Option ℤ) (rot : Matrix) (asked : List ℕ) where
  -- the lines of so many questions from number i on
  abbrev pub lines_from : ℕ → Memory → ℕ → List ℕ
  lines_from i c many = answers_text i (run_with limit ev segs n ix c (turned_from wanted rot asked i many))

  abbrev pub asked_at : ℕ → Memory → Asked
  asked_at i c = asked_in_with limit ev segs n ix c (question_at asked i) wanted rot

  pub turns : Turns Memory lines_from (λ i c. answer_text i (asked_at i c).answer) (λ i c. (asked_at i c).memory)
  unfolding answers_text run_with turned_from
  turns = record { none = λ i c. refl; more = λ i c many. refl }

  -- one line more is put
  pub put_more : {start page after : Page} {text : List ℕ} (m i : ℕ) (c : Memory) {r : Asked} → i < m → r ≡ asked_at i c
      → Rest start text page (lines_from i c (m - i)) → Put page (answer_text i r.answer) after
      → Rest start text after (lines_from (i + 1) r.memory (m - (i + 1)))
  put_more {start} {page} {after} {text} m i c less got rest put =
      subst (λ (x : Asked). Rest start text after (lines_from (i + 1) x.memory (m - (i + 1)))) (sym got)
      (next_turn turns m i c less rest (subst (λ (x : Asked). Put page (answer_text i x.answer) after) got put))
