-- `index::bucket_of` meets its contract: a remainder. The body is read back from its bits, by `to_z-of_z`. Assumes nothing.
use mathlib.Core.Path.{◌∙◌, ap}
use Prim.Native.Nat.{ℕ, ◌%◌}
use native.Mathlib.Nat.{mod-lt}
use mir.Syntax.{w32}
use mir.ValLaws.{to_z-of_z}
use borrow.Author.Rules.{rules}
use Rattle.index.specs.Buckets.{unsigned_of, bucket_of}
use Rattle.index.proofs.bucket_of.Goals as goal

pub returns-clause-value : goal.returns-clause-value
unfolding bucket_of
returns-clause-value c =
    let a = c.args in
    ap (λ (x : ℕ). x % a.m) (c.unsigned_of.ensures ∙ ap unsigned_of (to_z-of_z w32 a.body c.ranges.body))
