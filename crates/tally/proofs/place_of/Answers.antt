-- `tally::place_of` meets its contract: the suppliers of the lines rise, so those below x stand before the others. Assumes nothing.
use mathlib.Core.Path.{ap}
use mathlib.Core.List.{List}
use Prim.Native.Nat.{ℕ, ◌≤◌, ◌<◌}
use native.Mathlib.Nat.{le_antisymm}
use native.Mathlib.Omega.{arith}
use lib.Dec.{ltb}
use lib.ListN.{length}
use borrow.Author.Rules.{rules}
use borrow.Author.Tests.{ltb-true, ltb-false}
use Rattle.std.proofs.lemmas.List.Sorted.{IsPartitionPoint-from_clause, IsPartitionedBy-ltb, IsNonDecreasingBy-from_default}
use Rattle.bits.proofs.Tests.{by_test_lem}
use Rattle.tally.specs.declared.Line.{Line}
use Rattle.tally.specs.Statement.{no_line}
use Rattle.tally.specs.Steps.{supplier_on, Rising}
use Rattle.tally.proofs.place_of.Goals as goal

-- of two lines neither the later nor the same one has a lower supplier
none_falls : (lines : List Line) → Rising lines → (i j : ℕ) → i ≤ j → j < length lines → supplier_on lines i ≤ supplier_on lines j
none_falls lines r i j a b =
    by_test_lem (ltb i j) (λ q. omega (arith, r i j (ltb-true i j q) b)) (λ q. omega (arith, ap (supplier_on lines) (le_antisymm a (ltb-false i j q))))

pub returns : goal.returns
returns c =
    let parted = IsPartitionedBy-ltb (λ (l : Line). l.supplier) c.args.lines.now c.args.x (IsNonDecreasingBy-from_default (λ (l : Line). l.supplier) c.args.lines.now no_line (none_falls c.args.lines.now c.requires)) in
    let point = IsPartitionPoint-from_clause (λ (l : Line). ltb l.supplier c.args.x) _ _ c.partition_point.ensures.partitioned parted (λ a r q k. search rules) in
    record {
      within = omega arith;
      below = λ k h. ltb-true _ _ (point.0 k no_line (omega arith) h);
      beyond = λ k h b. ltb-false _ _ (point.1 k no_line h b);
    }
