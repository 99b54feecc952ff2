-- The word of an answer over a lent table: `spk` has each of these for any evaluation, `pck` for every kernel, and `segment` what a value's word is. Assumes
-- nothing.
use Prim.Native.Nat.{ℕ}
use mathlib.Core.Path.{◌≡◌, refl, sym, ap, ◌∙◌}
use mathlib.Core.Bool.{Bool, true, false, true≢false}
use mathlib.Core.Logic.{⊎_elim}
use mathlib.Core.List.{List, [], ◌∷◌, ◌++◌, append_assoc}
use lib.Ieee.{Float}
use lib.ListN.{length}
use Rattle.daf.specs.declared.Family.TheVariants.{Spk}
use Rattle.segment.specs.declared.Segment.{Segment}
use Rattle.segment.specs.declared.Valued.{Valued}
use Rattle.segment.specs.Evaluating.{evaluated}
use Rattle.segment.specs.Before.{old_evaluated}
use Rattle.segment.proofs.Refusals.{answered_value}
use Rattle.segment.proofs.Before.{evaluated_as_before}
use Rattle.table.specs.Segments.{seg}
use Rattle.table.specs.Places.{limit_of}
use Rattle.chain.specs.Before.{OldEvaluation, bare_evaluation}
use Rattle.spk.specs.declared.Answer.{Answer}
use Rattle.spk.specs.declared.Way.{Way}
use Rattle.spk.specs.declared.Way.TheVariants as way
use Rattle.spk.specs.Answers.{stretched_of}
use Rattle.spk.specs.Turning.{is_refused}
use Rattle.spk.specs.Words.{Saying}
use Rattle.spk.specs.Before.{bare_asked, old_asked, old_asked_in, old_alone}
use Rattle.spk.proofs.Before.{asked_as_before, in_as_before, alone_as_before}
use Rattle.spk.proofs.Words as words
use Rattle.pck.proofs.Before as pck-before
use Rattle.pck.proofs.Words as pck-words
use Rattle.lines.specs.Text.{space, newline, decimal_text, field_text, yes_text, state_text, tail_text}
use Rattle.ask_text.specs.Lines.{same_word, forward_word, reversed_word, chained_word, word_line, named_line, way_line, answer_text}
use Rattle.orient_text.specs.Lines.{turned_text, outcome_text, oriented_text}
use Rattle.demands.specs.Words.{word_at, LentSegmentWord, LentChainWord, LentSameWord, LentRefusedWord, LentWordIn, LentRefusedWordIn, LentAloneWord, LentRefusedAloneWord, PckWord, PckRefusedWord, PckAloneWord, PckRefusedAloneWord, AskLineWord, OrientLineWord, LentAsBefore, LentAsBeforeIn, LentAloneAsBefore, PckAsBefore, PckAloneAsBefore, IndexedAsBefore}
use Rattle.demands.proofs.Frames.{same_asked_in}

-- what a segment says is the definition's
says : (k : List ℕ) (segs : List Segment) (i : ℕ) (et : Float) (b : Bool) → Saying (evaluated Spk k) segs i et b → b ≡ word_at k (seg segs i) et
says k segs i et b s = s.2 ∙ ap (λ (v : Valued). v.stretched) (answered_value Spk k (seg segs i) i et s.0 s.1)

-- ---- exactly when
pub lent_segment_word : LentSegmentWord
lent_segment_word k segs n m q i by =
    says k segs i q.et _
    (⊎_elim (words.word_forward (limit_of (length segs)) (evaluated Spk k) segs n m q i) (words.word_reversed (limit_of (length segs)) (evaluated Spk k) segs n m q i) by)

pub lent_chain_word : LentChainWord
lent_chain_word k segs n m q h = words.word_chained (limit_of (length segs)) (evaluated Spk k) segs n m q h

pub lent_same_word : LentSameWord
lent_same_word k segs n m q e = words.word_same (limit_of (length segs)) (evaluated Spk k) segs n m q e

pub lent_refused_word : LentRefusedWord
lent_refused_word k segs n m q r h = words.word_refused (limit_of (length segs)) (evaluated Spk k) segs n m q r h

pub lent_word_in : LentWordIn
lent_word_in k segs n m q wanted rot h = words.word_in (limit_of (length segs)) (evaluated Spk k) segs n m q wanted rot h

pub lent_refused_word_in : LentRefusedWordIn
lent_refused_word_in k segs n m q wanted rot r h = words.in_refused (limit_of (length segs)) (evaluated Spk k) segs n m q wanted rot r h

pub lent_alone_word : LentAloneWord
lent_alone_word k segs n i et h = says k segs i et _ (words.word_alone (limit_of (length segs)) (evaluated Spk k) segs n i et h)

pub lent_refused_alone_word : LentRefusedAloneWord
lent_refused_alone_word k segs n i et r h = words.alone_refused (limit_of (length segs)) (evaluated Spk k) segs n i et r h

pub pck_word : PckWord
pck_word k segs n q h = pck-words.word_turned (limit_of (length segs)) k segs n q h

pub pck_refused_word : PckRefusedWord
pck_refused_word k segs n q r h = pck-words.word_refused (limit_of (length segs)) k segs n q r h

pub pck_alone_word : PckAloneWord
pck_alone_word k segs n i et h = pck-words.word_alone (limit_of (length segs)) k segs n i et h

pub pck_refused_alone_word : PckRefusedAloneWord
pck_refused_alone_word k segs n i et r h = pck-words.alone_refused (limit_of (length segs)) k segs n i et r h

-- ---- in the line
pub ask_line_word : AskLineWord
unfolding answer_text way_line word_line named_line tail_text
ask_line_word i a h = go a.way h
  where
    tail : List ℕ
    tail = yes_text (stretched_of a) ++ (state_text a.given.state ++ (newline ∷ []))

    worded : (w : List ℕ) → (before : List ℕ) × (decimal_text i ++ (w ++ tail) ≡ before ++ tail)
    worded w = (decimal_text i ++ w, sym (append_assoc (decimal_text i) w tail))

    named : (w : List ℕ) (segment : ℕ) → (before : List ℕ) × (decimal_text i ++ (w ++ (decimal_text segment ++ tail)) ≡ before ++ tail)
    named w segment =
        (decimal_text i ++ (w ++ decimal_text segment), ap (λ (l : List ℕ). decimal_text i ++ l) (sym (append_assoc w (decimal_text segment) tail)) ∙ sym (append_assoc (decimal_text i) (w ++ decimal_text segment) tail))

    go : (w : Way) → is_refused w ≡ false → (before : List ℕ) × (way_line i w a.given ≡ before ++ tail)
    go way.Same e = worded same_word
    go (way.Forward j) e = named forward_word j
    go (way.Reversed j) e = named reversed_word j
    go way.Chained e = worded chained_word
    go (way.Refused r) e = absurd (true≢false e)

pub orient_line_word : OrientLineWord
unfolding oriented_text turned_text tail_text
orient_line_word i a h = (
  decimal_text i ++ field_text a.frame,
  ap (outcome_text i a) h ∙ sym (append_assoc (decimal_text i) (field_text a.frame) (yes_text a.stretched ++ (state_text a.angles ++ (newline ∷ [])))),
)

-- ---- as before
evaluation_as : (k : List ℕ) → bare_evaluation (evaluated Spk k) ≡ old_evaluated Spk k
evaluation_as k = λ x s i et. evaluated_as_before Spk k s i et x

pub lent_as_before : LentAsBefore
lent_as_before k segs n m q =
    asked_as_before (limit_of (length segs)) (evaluated Spk k) segs n m q ∙ ap (λ (ev : OldEvaluation). old_asked (limit_of (length segs)) ev segs n m q) (evaluation_as k)

pub lent_as_before_in : LentAsBeforeIn
lent_as_before_in k segs n m q wanted rot =
    in_as_before (limit_of (length segs)) (evaluated Spk k) segs n m q wanted rot
    ∙ ap (λ (ev : OldEvaluation). old_asked_in (limit_of (length segs)) ev segs n m q wanted rot) (evaluation_as k)

pub lent_alone_as_before : LentAloneAsBefore
lent_alone_as_before k segs n i et =
    alone_as_before (limit_of (length segs)) (evaluated Spk k) segs n i et ∙ ap (λ (ev : OldEvaluation). old_alone (limit_of (length segs)) ev segs n i et) (evaluation_as k)

pub pck_as_before : PckAsBefore
pck_as_before k segs n q = pck-before.oriented_as_before (limit_of (length segs)) k segs n q

pub pck_alone_as_before : PckAloneAsBefore
pck_alone_as_before k segs n i et = pck-before.alone_as_before (limit_of (length segs)) k segs n i et

pub indexed_as_before : IndexedAsBefore
indexed_as_before k before spare segs ix n left now m q wanted rot =
    ap bare_asked (same_asked_in k before spare segs ix n left now m q wanted rot) ∙ lent_as_before_in now segs n m q wanted rot
