-- `bits::cut_u32` meets its contract: the whole part at 64 bits, up to the largest of 32. Assumes nothing.
use Prim.Native.Nat.{ℕ, ◌<◌, ◌+◌, min}
use mathlib.Core.Path.{◌≡◌}
use native.Mathlib.Omega.{arith}
use Rattle.std.specs.Prelude.{Result, Ok, Err}
use Rattle.std.specs.Result.{OkIff, result_unwrap_or}
use Rattle.bits.proofs.Whole.{cut_narrow}
use Rattle.bits.proofs.cut_u32.Goals as goal

-- what fits up to m, and m for the rest
capped : {E : Type 0} (r : Result ℕ E) (a m : ℕ) → OkIff r (a < m + 1) a → result_unwrap_or r m ≡ min a m
capped (Ok x) a m h = let f = h.0 in let e = h.1 in omega arith
capped (Err e) a m h = omega arith

pub returns : goal.returns
returns c = omega (arith, c.unwrap_or.ensures, capped _ c.cut_u64.result 4294967295 c.try_from.ensures, cut_narrow 32 c.args.x (omega arith))
