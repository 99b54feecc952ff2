-- The loop over the questions: the lines that are left at question i. Assumes nothing.
use mathlib.Core.Path.{◌≡◌, refl, subst}
use Prim.Native.Nat.{ℕ, ◌+◌, ◌-◌, ◌<◌}
use mathlib.Core.List.{List}
use Rattle.lines.specs.declared.Page.{Page}
use Rattle.lines.specs.Written.{Put}
use Rattle.lines.proofs.Texts.{Rest, Turns, next_turn}
use Rattle.segment.specs.declared.Segment.{Segment}
use Rattle.pck.specs.declared.Oriented.{Oriented}
use Rattle.indexed.specs.Orienting.{oriented_with}
use Rattle.orient_text.specs.Records.{question_at}
use Rattle.orient_text.specs.Lines.{oriented_text}
use Rattle.orient_text.specs.Steps.{lines_of, orientations_by}

module _ (limit : ℕ) (kernel : List ℕ) (segs : List Segment) (n : ℕ) (ix asked : List ℕ) where
  -- the lines of so many questions from number i on
  abbrev pub lines_from : ℕ → Unit {0} → ℕ → List ℕ
  lines_from i s many = orientations_by limit kernel segs n ix asked i many

  abbrev pub turned_at : ℕ → Oriented
  turned_at i = oriented_with limit kernel segs n ix (question_at asked i)

  pub turns : Turns (Unit {0}) lines_from (λ i s. oriented_text i (turned_at i)) (λ i s. s)
  unfolding lines_of
  turns = record { none = λ i s. refl; more = λ i s many. refl }

  -- one line more is put
  pub put_more : {start page after : Page} {text : List ℕ} (m i : ℕ) {r : Oriented} → i < m → r ≡ turned_at i
      → Rest start text page (lines_from i tt (m - i)) → Put page (oriented_text i r) after → Rest start text after (lines_from (i + 1) tt (m - (i + 1)))
  put_more {page = page} {after = after} m i less got rest put = next_turn turns m i tt less rest (subst (λ (x : Oriented). Put page (oriented_text i x) after) got put)
