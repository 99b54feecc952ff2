-- `admission::matrix_for` meets its contract. Assumes nothing.
use mathlib.Core.Path.{sym, ◌∙◌}
use mathlib.Core.Bool.{true, false}
use borrow.Author.Rules.{rules}
use borrow.Author.Tests.{eq-eqb, ne_eqb}
use Rattle.admission.proofs.MatrixFile.{too_long_lem, all_short}
use Rattle.admission.proofs.matrix_for.Goals as goal

pub returns-then-any_over : goal.returns-then-any_over
returns-then-any_over c = sym (too_long_lem _ _ _ (sym c.any_over.ensures ∙ c.if-any_over.true))

pub returns-then-matrix-ne-MATRIX : goal.returns-then-matrix-ne-MATRIX
returns-then-matrix-ne-MATRIX c =
    sym (all_short _ _ _ false (sym c.any_over.ensures ∙ c.if-any_over.false) (ne_eqb _ _ c.if-matrix-ne-MATRIX.true))

pub returns : goal.returns
returns c = sym (all_short _ _ _ true (sym c.any_over.ensures ∙ c.if-any_over.false) (eq-eqb _ _ c.if-matrix-ne-MATRIX.false))
