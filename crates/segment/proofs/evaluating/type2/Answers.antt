-- `segment::type2` meets its contract: the record lies within the kernel. Assumes nothing.
use Rattle.segment.proofs.AfterTests.{record_below, record_ends, at_byte, at_word, two_refused, two_answered}
use Rattle.std.proofs.Common.{Result, Ok, Err}
use Rattle.std.proofs.lemmas.Result.{err_from_is_err_and}
use Rattle.refusal.specs.declared.Refusal.{Refusal}
use Rattle.frame.specs.declared.State.{State}
use Rattle.cheby.specs.Cheby.{record_for}
use native.Mathlib.Omega.{arith}
use mathlib.Core.Path.{◌≡◌, sym, ap, ◌∙◌}
use Rattle.segment.proofs.evaluating.type2.Goals as goal

pub type2_at-requires : goal.type2_at-requires
type2_at-requires c =
    let a = c.args in
    let p = c.requires in
    let r = record_for a.t.init a.t.intlen a.et a.t.count in
    omega (
      arith,
      p.within,
      p.size,
      record_ends a.t.size r a.t.count (record_below a.t.init a.t.intlen a.et a.t.count p.some),
      at_byte c.record_place-at.ensures,
      c.coefficients-c.ensures,
    )

-- two refusals in the place of a state are one
one : (r s : Refusal) → ◌≡◌ {A = Result State Refusal} (Err r) (Err s) → r ≡ s
one r s e = cc

pub returns-in_err-state : goal.returns-in_err-state
returns-in_err-state c =
    let none = c.in_err-state.ensures.ok_part in
    let given = err_from_is_err_and c.from_residual.result c.from_residual.ensures.1 in
    given.1 ∙ ap Err (given.2 ∙ one _ _ (rw none at c.in_err-state.ensures.value))
    ∙ two_refused _ _ _ _ _ _ _ _ _ _ (at_byte c.record_place-at.ensures) c.coefficients-c.ensures (sym c.type2_at.ensures ∙ none)

pub returns : goal.returns
returns c =
    let place = c.record_place-at.ensures in
    ap Ok c.of.ensures ∙ two_answered _ _ _ _ _ _ _ _ _ _ (at_byte place) _ _ (at_word place) c.coefficients-c.ensures (sym c.type2_at.ensures ∙ c.in_ok-state.ensures.ok_part)
