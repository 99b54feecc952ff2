-- `bits::same_bits` meets its contract: two doubles that are no NaN are the same where their patterns are. Assumes nothing.
use mathlib.Core.Path.{◌≡◌, sym, ap, ◌∙◌}
use mathlib.Core.Bool.{Bool, true, false, not, true≢false, false≢true}
use Rattle.bits.proofs.Nan.{yes, no, the_nan}
use Rattle.bits.proofs.Patterns.{nan_left, nan_right, bits_same}
use Rattle.bits.proofs.same_bits.Goals as goal
use Rattle.bits.proofs.same_bits.Goals.{then-not-is_nan, else-not-is_nan}

not_false : (b : Bool) → not b ≡ false → b ≡ true
not_false true e = cc
not_false false e = absurd (true≢false e)

-- neither is a NaN: the two patterns
pub returns-then-not-is_nan-2 : goal.returns-then-not-is_nan-2
returns-then-not-is_nan-2 c =
    let a = c.args in
    let ok = c.if-not-is_nan-2.true in
    elim c.if-not-is_nan.branch [
      | then-not-is_nan w ↦ bits_same a.a a.b (yes c.well_formed.0.1) (yes c.well_formed.1.0.1) (no (sym c.is_nan.ensures.value ∙ w.if-not-is_nan.true))
      | else-not-is_nan w ↦ absurd (false≢true (sym (w.value-is ∙ ap not w.if-not-is_nan.false) ∙ ok))
    ]

-- one is
pub returns-else-not-is_nan-2 : goal.returns-else-not-is_nan-2
returns-else-not-is_nan-2 c =
    let a = c.args in
    let none = c.if-not-is_nan-2.false in
    none
    ∙ elim c.if-not-is_nan.branch [
      | then-not-is_nan w ↦ nan_right a.a a.b (the_nan a.b (sym w.is_nan-then-not-is_nan.ensures.value ∙ not_false _ (sym w.value-is ∙ none)))
      | else-not-is_nan w ↦ nan_left a.a a.b (the_nan a.a (sym c.is_nan.ensures.value ∙ w.if-not-is_nan.false))
    ]
