-- `tally::add_up` meets its contract. Assumes nothing.
use mathlib.Core.Path.{◌≡◌, sym, ◌∙◌, subst}
use Prim.Native.Nat.{ℕ}
use native.Mathlib.Omega.{arith}
use Rattle.tally.specs.Usage.{records_in}
use Rattle.tally.specs.Steps.{Tallied}
use Rattle.tally.proofs.Ways.{from_start, broken_here, crowded_here, sound_here, cut_there, whole_there, tallied_none, tallied_all}
use Rattle.tally.proofs.add_up.Goals as goal

pub loop-i-init : goal.loop-i-init
loop-i-init c = (tallied_none c.args.file.now, from_start c.args.file.now)

pub returns-then-not-is_marked : goal.returns-then-not-is_marked
returns-then-not-is_marked c =
    sym (c.loop-i.invariant.1 ∙ broken_here c.args.file.now c.loop-i.i (omega arith) (sym c.is_marked.ensures ∙ c.if-not-is_marked.true))

-- a record that is counted began with the mark
pub returns-then-known-gt-SUPPLIERS : goal.returns-then-known-gt-SUPPLIERS
returns-then-known-gt-SUPPLIERS c =
    sym (c.loop-i.invariant.1
    ∙ crowded_here c.args.file.now c.loop-i.i (omega arith) c.count_record-known.result c.count_record-known.ensures.many
    (sym c.is_marked.ensures ∙ c.if-not-is_marked.false) (omega arith))

pub loop-i-preserved : goal.loop-i-preserved
loop-i-preserved c = (
  c.count_record-known.ensures.tallied (omega arith),
  c.loop-i.invariant.1
      ∙ sound_here c.args.file.now c.loop-i.i (omega arith) c.count_record-known.result c.count_record-known.ensures.many
      (sym c.is_marked.ensures ∙ c.if-not-is_marked.false) (omega arith),
)

pub returns-then-file-ne0 : goal.returns-then-file-ne0
returns-then-file-ne0 c = sym (c.loop-i.invariant.1 ∙ cut_there c.args.file.now c.loop-i.i (omega arith) c.if-file-ne0.true)

pub returns : goal.returns
returns c =
    let file = c.args.file.now in
    let l = c.loop-i in
    let all : l.i ≡ records_in file = omega arith in
    tallied_all file l.lines l.known (subst (λ (k : ℕ). Tallied file k l.lines l.known) all l.invariant.0)
    ∙ sym (l.invariant.1 ∙ whole_there file l.i (omega arith) c.if-file-ne0.false)
