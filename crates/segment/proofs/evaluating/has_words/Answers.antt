-- `segment::has_words` meets its contract: each word in its turn. Assumes nothing.
use mathlib.Core.Path.{sym, ap, ◌∙◌}
use mathlib.Core.Bool.{false≢true}
use lib.Ieee.{to_unsigned}
use native.Mathlib.Omega.{arith}
use Rattle.bits.proofs.Patterns.{pattern_eq}
use Rattle.bits.proofs.Few.{whole_eq}
use Rattle.segment.specs.Kinds.{whole_number}
use Rattle.segment.proofs.evaluating.has_words.Goals.{then-has_bits, else-has_bits, then-has_bits-2, else-has_bits-2}
use Rattle.segment.proofs.evaluating.has_words.Goals as goal

pub returns-then-has_whole : goal.returns-then-has_whole
unfolding whole_number
returns-then-has_whole c = λ h. elim c.if-has_bits-2.branch [
  | else-has_bits-2 w ↦ absurd (false≢true (sym w.if-has_bits-2.false ∙ sym w.value-is ∙ c.if-has_whole.true))
  | then-has_bits-2 w ↦ elim c.if-has_bits.branch [
    | else-has_bits v ↦ absurd (false≢true (sym v.if-has_bits.false ∙ sym v.value-is ∙ w.if-has_bits-2.true))
    | then-has_bits v ↦
        let init = sym c.word_at.ensures ∙ pattern_eq _ _ (sym c.has_bits.ensures ∙ v.if-has_bits.true) in
        let intlen = sym v.word_at-then-has_bits.ensures ∙ pattern_eq _ _ (sym v.has_bits-then-has_bits.ensures ∙ sym v.value-is ∙ w.if-has_bits-2.true) in
        let size = ap (to_unsigned 64) (sym w.word_at-then-has_bits-2.ensures) ∙ whole_eq _ _ (omega arith) (sym w.has_whole.ensures ∙ sym w.value-is ∙ c.if-has_whole.true) in
        let count = ap (to_unsigned 64) (sym c.word_at-then-has_whole.ensures) ∙ whole_eq _ _ (omega arith) (sym c.has_whole-then-has_whole.ensures ∙ h) in
        λ i. record { init = init i; intlen = intlen i; size = size i; count = count i }
  ]
]
