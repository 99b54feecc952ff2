-- `segment::evaluate` meets its contract: where the segment plainly fits, it is answered here; all else goes by the tests. Assumes nothing.
use Prim.Native.Nat.{◌+◌, ◌*◌, ◌≤◌}
use mathlib.Core.Path.{refl, sym, ap, ◌∙◌}
use native.Mathlib.Omega.{arith}
use lib.ListN.{length}
use borrow.Author.Rules.{rules}
use Rattle.cheby.specs.Cheby.{record_for}
use Rattle.cheby.proofs.Record.{refused_where}
use Rattle.segment.specs.Kinds.{kind_with}
use Rattle.segment.specs.Told.{evaluated_told}
use Rattle.std.proofs.Common.{Ok}
use Rattle.segment.specs.declared.Form.TheVariants.{Two, Three}
use Rattle.segment.proofs.Tests.{is_type}
use Rattle.segment.proofs.Forms.{form_two}
use Rattle.segment.proofs.Plain.{two_fits, three_fits}
use Rattle.segment.proofs.AfterTests.{at_byte, at_word, record_below, record_ends, two_refused, two_answered, three_answered}
use Rattle.segment.proofs.evaluate.Goals as goal

pub no_radius-requires : goal.no_radius-requires
no_radius-requires c = omega (
  arith,
  (let a = c.args in
      let t = c.of_records-t.result in
      let r = (let a = c.args in
      two_fits a.family a.kernel.now a.s c.of_records-t.result
      (sym (form_two a.family a.s.data_type (is_type a.s.data_type 2 (search rules) (search rules) c.if-s-eq2.true)))
      (c.in-Type2.is ∙ ap (kind_with Two) (sym c.of_records-t.ensures))
      (c.plainly_fits.ensures c.if-plainly_fits.true)).records in
      let ends : c.plain_place-at.result.byte + 8 * t.size ≤ length a.kernel.now = omega (
        arith,
        r.within,
        record_ends t.size (record_for t.init t.intlen a.et t.count) t.count (record_below t.init t.intlen a.et t.count r.some),
        at_byte c.plain_place-at.ensures,
        c.start_of.ensures.0,
      ) in ends),
  (let a = c.args in
      two_fits a.family a.kernel.now a.s c.of_records-t.result
      (sym (form_two a.family a.s.data_type (is_type a.s.data_type 2 (search rules) (search rules) c.if-s-eq2.true)))
      (c.in-Type2.is ∙ ap (kind_with Two) (sym c.of_records-t.ensures))
      (c.plainly_fits.ensures c.if-plainly_fits.true)).records.size,
)

pub returns-then-no_radius-clause-value : goal.returns-then-no_radius-clause-value
returns-then-no_radius-clause-value c =
    (two_refused _ c.start_of.result _ _ _ _ _ _ _ _ (at_byte c.plain_place-at.ensures) refl (refused_where _ _ _ _ (sym c.no_radius.ensures ∙ c.if-no_radius.true))
    ∙ (let a = c.args in
    two_fits a.family a.kernel.now a.s c.of_records-t.result
    (sym (form_two a.family a.s.data_type (is_type a.s.data_type 2 (search rules) (search rules) c.if-s-eq2.true)))
    (c.in-Type2.is ∙ ap (kind_with Two) (sym c.of_records-t.ensures))
    (c.plainly_fits.ensures c.if-plainly_fits.true)).behind c.start_of.result _ _ c.start_of.ensures.0)

pub returns-then-no_radius-clause-told : goal.returns-then-no_radius-clause-told
returns-then-no_radius-clause-told c =
    ap evaluated_told (two_refused _ c.start_of.result _ _ _ _ _ _ _ _ (at_byte c.plain_place-at.ensures) refl (refused_where _ _ _ _ (sym c.no_radius.ensures ∙ c.if-no_radius.true))
    ∙ (let a = c.args in
    two_fits a.family a.kernel.now a.s c.of_records-t.result
    (sym (form_two a.family a.s.data_type (is_type a.s.data_type 2 (search rules) (search rules) c.if-s-eq2.true)))
    (c.in-Type2.is ∙ ap (kind_with Two) (sym c.of_records-t.ensures))
    (c.plainly_fits.ensures c.if-plainly_fits.true)).behind c.start_of.result _ _ c.start_of.ensures.0)

pub state2_at-state-requires : goal.state2_at-state-requires
state2_at-state-requires c = (
  omega (
    arith,
    (let a = c.args in
        let t = c.of_records-t.result in
        let r = (let a = c.args in
        two_fits a.family a.kernel.now a.s c.of_records-t.result
        (sym (form_two a.family a.s.data_type (is_type a.s.data_type 2 (search rules) (search rules) c.if-s-eq2.true)))
        (c.in-Type2.is ∙ ap (kind_with Two) (sym c.of_records-t.ensures))
        (c.plainly_fits.ensures c.if-plainly_fits.true)).records in
        let ends : c.plain_place-at.result.byte + 8 * t.size ≤ length a.kernel.now = omega (
          arith,
          r.within,
          record_ends t.size (record_for t.init t.intlen a.et t.count) t.count (record_below t.init t.intlen a.et t.count r.some),
          at_byte c.plain_place-at.ensures,
          c.start_of.ensures.0,
        ) in ends),
    (let a = c.args in
        two_fits a.family a.kernel.now a.s c.of_records-t.result
        (sym (form_two a.family a.s.data_type (is_type a.s.data_type 2 (search rules) (search rules) c.if-s-eq2.true)))
        (c.in-Type2.is ∙ ap (kind_with Two) (sym c.of_records-t.ensures))
        (c.plainly_fits.ensures c.if-plainly_fits.true)).records.size,
    c.plain_coefficients-c.ensures,
  ),
  sym c.no_radius.ensures ∙ c.if-no_radius.false,
)

pub returns-then-plainly_fits-clause-value : goal.returns-then-plainly_fits-clause-value
returns-then-plainly_fits-clause-value c =
    let place = c.plain_place-at.ensures in
    (ap Ok c.of.ensures
    ∙ two_answered _ c.start_of.result _ _ _ _ _ _ _ _ (at_byte place) _ _ (at_word place) c.plain_coefficients-c.ensures (sym c.state2_at-state.ensures)
    ∙ (let a = c.args in
    two_fits a.family a.kernel.now a.s c.of_records-t.result
    (sym (form_two a.family a.s.data_type (is_type a.s.data_type 2 (search rules) (search rules) c.if-s-eq2.true)))
    (c.in-Type2.is ∙ ap (kind_with Two) (sym c.of_records-t.ensures))
    (c.plainly_fits.ensures c.if-plainly_fits.true)).behind c.start_of.result _ _ c.start_of.ensures.0)

pub returns-then-plainly_fits-clause-told : goal.returns-then-plainly_fits-clause-told
returns-then-plainly_fits-clause-told c =
    let place = c.plain_place-at.ensures in
    ap evaluated_told (ap Ok c.of.ensures
    ∙ two_answered _ c.start_of.result _ _ _ _ _ _ _ _ (at_byte place) _ _ (at_word place) c.plain_coefficients-c.ensures (sym c.state2_at-state.ensures)
    ∙ (let a = c.args in
    two_fits a.family a.kernel.now a.s c.of_records-t.result
    (sym (form_two a.family a.s.data_type (is_type a.s.data_type 2 (search rules) (search rules) c.if-s-eq2.true)))
    (c.in-Type2.is ∙ ap (kind_with Two) (sym c.of_records-t.ensures))
    (c.plainly_fits.ensures c.if-plainly_fits.true)).behind c.start_of.result _ _ c.start_of.ensures.0)

pub state3_at-state-requires : goal.state3_at-state-requires
state3_at-state-requires c =
    omega (
      arith,
      (let a = c.args in
          let t = c.of_records-t-in-Type3.result in
          let r = (let a = c.args in
          three_fits a.family a.kernel.now a.s c.of_records-t-in-Type3.result
          (c.is_three.ensures c.if-is_three.true)
          (c.in-Type3.is ∙ ap (kind_with Three) (sym c.of_records-t-in-Type3.ensures))
          (c.plainly_fits-in-Type3.ensures c.if-plainly_fits-2.true)).records in
          let ends : c.plain_place-at-then-plainly_fits-2.result.byte + 8 * t.size ≤ length a.kernel.now = omega (
            arith,
            r.within,
            record_ends t.size (record_for t.init t.intlen a.et t.count) t.count (record_below t.init t.intlen a.et t.count r.some),
            at_byte c.plain_place-at-then-plainly_fits-2.ensures,
            c.start_of-then-plainly_fits-2.ensures.0,
          ) in ends),
      (let a = c.args in
          three_fits a.family a.kernel.now a.s c.of_records-t-in-Type3.result
          (c.is_three.ensures c.if-is_three.true)
          (c.in-Type3.is ∙ ap (kind_with Three) (sym c.of_records-t-in-Type3.ensures))
          (c.plainly_fits-in-Type3.ensures c.if-plainly_fits-2.true)).records.size,
      c.plain_coefficients-c-then-plainly_fits-2.ensures,
    )

pub returns-then-plainly_fits-2-clause-value : goal.returns-then-plainly_fits-2-clause-value
returns-then-plainly_fits-2-clause-value c =
    let place = c.plain_place-at-then-plainly_fits-2.ensures in
    (ap Ok c.of-then-plainly_fits-2.ensures
    ∙ three_answered _ c.start_of-then-plainly_fits-2.result _ _ _ _ _ _ _ _ (at_byte place) _ _ (at_word place) c.plain_coefficients-c-then-plainly_fits-2.ensures c.state3_at-state.ensures
    ∙ (let a = c.args in
    three_fits a.family a.kernel.now a.s c.of_records-t-in-Type3.result
    (c.is_three.ensures c.if-is_three.true)
    (c.in-Type3.is ∙ ap (kind_with Three) (sym c.of_records-t-in-Type3.ensures))
    (c.plainly_fits-in-Type3.ensures c.if-plainly_fits-2.true)).behind c.start_of-then-plainly_fits-2.result _ _ c.start_of-then-plainly_fits-2.ensures.0)

pub returns-then-plainly_fits-2-clause-told : goal.returns-then-plainly_fits-2-clause-told
returns-then-plainly_fits-2-clause-told c =
    let place = c.plain_place-at-then-plainly_fits-2.ensures in
    ap evaluated_told (ap Ok c.of-then-plainly_fits-2.ensures
    ∙ three_answered _ c.start_of-then-plainly_fits-2.result _ _ _ _ _ _ _ _ (at_byte place) _ _ (at_word place) c.plain_coefficients-c-then-plainly_fits-2.ensures c.state3_at-state.ensures
    ∙ (let a = c.args in
    three_fits a.family a.kernel.now a.s c.of_records-t-in-Type3.result
    (c.is_three.ensures c.if-is_three.true)
    (c.in-Type3.is ∙ ap (kind_with Three) (sym c.of_records-t-in-Type3.ensures))
    (c.plainly_fits-in-Type3.ensures c.if-plainly_fits-2.true)).behind c.start_of-then-plainly_fits-2.result _ _ c.start_of-then-plainly_fits-2.ensures.0)
