use Rattle.std.proofs.Common.{◌≡◌, ◌∙◌, length, ap, arith}
use Rattle.table.specs.Marks.{marked_to}
use Rattle.opening.specs.Steps.{count_in, cursor_in, marks_for, filled}
use Rattle.opening.proofs.Planning.{filled_length}
use Rattle.opening.proofs.Planned.{marks_most}
use Rattle.indexed.specs.Opening.{indexed_by}
use Rattle.indexed.proofs.Opening.{right_for, index_marked}
use Rattle.indexed.proofs.carry_out.Goals as goal

pub mark-requires : goal.mark-requires
mark-requires c =
    let a = c.args in
    let marks : c.marks_for-m.result ≡ marks_for a.family (count_in a.p) = c.marks_for-m.ensures ∙ ap (marks_for a.family) c.count_in-n.ensures in
    let long : length c.fill.new.table ≡ length a.table.now = ap length c.fill.ensures ∙ filled_length a.family a.kernel.now _ a.table.now _ in
    let most = marks_most a.family (count_in a.p) in
    (omega (arith, marks, long, most, c.requires.0.0), rw (marks, c.fill-2.ensures) (right_for a.family a.p c.fill.new.table a.ix.now))

pub returns : goal.returns
returns c =
    let a = c.args in
    let m = marks_for a.family (count_in a.p) in
    let marks : c.marks_for-m.result ≡ m = c.marks_for-m.ensures ∙ ap (marks_for a.family) c.count_in-n.ensures in
    let full : c.fill.new.table ≡ filled a.family a.kernel.now (cursor_in a.p) a.table.now (count_in a.p) =
    c.fill.ensures
    ∙ ap (λ x. filled a.family a.kernel.now x a.table.now c.count_in-n.result) c.cursor_in-c.ensures
    ∙ ap (filled a.family a.kernel.now (cursor_in a.p) a.table.now) c.count_in-n.ensures in (
      c.mark.ensures ∙ ap (λ x. marked_to c.fill.new.table x x) marks ∙ ap (λ ys. marked_to ys m m) full,
      c.fill-2.ensures ∙ index_marked a.p c.fill.new.table m a.ix.now ∙ ap (λ ys. indexed_by a.p (marked_to ys m m) a.ix.now) full,
    )
