-- `index::join_half` meets its contract: the bucket is that of the body, which is read back from its bits. Assumes nothing.
use mathlib.Core.Path.{ap, ◌∙◌}
use Prim.Native.Nat.{ℕ, ◌+◌, ◌/◌}
use native.Mathlib.Omega.{arith}
use lib.ListN.{length, get_or, set, length-set}
use mir.Syntax.{w32}
use mir.ValLaws.{to_z-of_z}
use Rattle.index.specs.Buckets.{bucket_of}
use Rattle.index.specs.Parts.{joined_at}
use Rattle.index.proofs.join_half.Goals as goal

pub returns : goal.returns
unfolding joined_at
returns c =
    let a = c.args in
    let m = length a.ix.now / 4 in
    let h = c.bucket_of.ensures.value ∙ ap (bucket_of m) (to_z-of_z w32 a.body c.ranges.body) in
    ap (λ (k : ℕ). set (set a.ix.now (a.a + m + a.i) (get_or a.ix.now (a.a + k) 0)) (a.a + k) (a.i + 1)) h
