-- `tally::count_record` meets its contract: a known supplier is counted once more, a new one is put in at his place. Assumes nothing.
use mathlib.Core.Path.{◌≡◌, sym, ap, ◌∙◌, subst}
use mathlib.Core.List.{List}
use Prim.Native.Nat.{ℕ, ◌+◌, ◌<◌, ◌≤◌}
use native.Mathlib.Omega.{arith}
use lib.ListN.{take}
use Rattle.tally.specs.declared.Line.{Line}
use Rattle.tally.specs.Usage.{supplier_at}
use Rattle.tally.specs.Faults.{supplier_limit}
use Rattle.tally.specs.Steps.{supplier_on, Place, Tallied, put_in}
use Rattle.tally.proofs.Tallying.{tallied_rising, tallied_most, tallied_again, tallied_more, tallied_new}
use Rattle.tally.proofs.count_record.Goals.{else-at-known-via-then-at-known+else-lines-at, else-at-known-via-else-at-known, then-known-lt-SUPPLIERS, else-known-lt-SUPPLIERS}
use Rattle.tally.proofs.count_record.Goals as goal

pub place_of-at-requires : goal.place_of-at-requires
place_of-at-requires c = tallied_rising _ _ _ _ c.requires.1

-- ---- where the supplier is known
pub overflow_add-lines : goal.overflow_add-lines
overflow_add-lines c = omega (arith, tallied_most _ _ _ _ c.requires.1 c.place_of-at.result c.if-at-known.true, c.requires.0)

pub returns-then-lines-at-clause-many : goal.returns-then-lines-at-clause-many
returns-then-lines-at-clause-many c =
    (tallied_again _ _ _ _ c.requires.1 c.place_of-at.result c.if-at-known.true (c.if-lines-at.true ∙ c.supplier_at-x.ensures)).many

pub returns-then-lines-at-clause-tallied : goal.returns-then-lines-at-clause-tallied
returns-then-lines-at-clause-tallied c =
    λ few. tallied_again _ _ _ _ c.requires.1 c.place_of-at.result c.if-at-known.true (c.if-lines-at.true ∙ c.supplier_at-x.ensures)

-- ---- where he is new
pub returns-clause-many : goal.returns-clause-many
returns-clause-many c =
    let place : Place (take c.args.known c.args.lines.now) (supplier_at c.args.file.now c.args.i) c.place_of-at.result =
    subst (λ (x : ℕ). Place (take c.args.known c.args.lines.now) x c.place_of-at.result) c.supplier_at-x.ensures c.place_of-at.ensures in
    let new : c.place_of-at.result < c.args.known → supplier_on c.args.lines.now c.place_of-at.result ≡ supplier_at c.args.file.now c.args.i → ⊥ =
    λ b e. elim c.else-at-known.branch [
      | else-at-known-via-then-at-known+else-lines-at w ↦ w.if-lines-at.false (e ∙ sym c.supplier_at-x.ensures)
      | else-at-known-via-else-at-known w ↦ omega arith
    ] in
    tallied_more _ _ _ _ c.requires.1 c.place_of-at.result place new

over : (k : ℕ) → k + 1 ≤ supplier_limit → 512 ≤ k → ⊥
over k a b = omega arith

pub returns-clause-tallied : goal.returns-clause-tallied
returns-clause-tallied c =
    let place : Place (take c.args.known c.args.lines.now) (supplier_at c.args.file.now c.args.i) c.place_of-at.result =
    subst (λ (x : ℕ). Place (take c.args.known c.args.lines.now) x c.place_of-at.result) c.supplier_at-x.ensures c.place_of-at.ensures in
    let new : c.place_of-at.result < c.args.known → supplier_on c.args.lines.now c.place_of-at.result ≡ supplier_at c.args.file.now c.args.i → ⊥ =
    λ b e. elim c.else-at-known.branch [
      | else-at-known-via-then-at-known+else-lines-at w ↦ w.if-lines-at.false (e ∙ sym c.supplier_at-x.ensures)
      | else-at-known-via-else-at-known w ↦ omega arith
    ] in
    λ few. elim c.if-known-lt-SUPPLIERS.branch [
      | then-known-lt-SUPPLIERS w ↦
          subst (λ (l : List Line). Tallied c.args.file.now (c.args.i + 1) l (c.args.known + 1))
          (sym (w.lines-is ∙ w.put_in.ensures
          ∙ ap (λ (x : ℕ). put_in c.args.lines.now c.args.known c.place_of-at.result (record { supplier = x; count = 1 })) c.supplier_at-x.ensures))
          (tallied_new _ _ _ _ c.requires.1 c.place_of-at.result place new w.if-known-lt-SUPPLIERS.true)
      | else-known-lt-SUPPLIERS w ↦ absurd (over c.args.known few w.if-known-lt-SUPPLIERS.false)
    ]
