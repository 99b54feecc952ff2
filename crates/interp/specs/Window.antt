-- Which records an interpolation uses: the place that the search finds, and the window around it.
use Rattle.std.specs.Prelude.{ℕ, zero, suc, ◌+◌, ◌-◌, ◌/◌, min, Bool, cond, List, ltb, Float}
use Rattle.std.specs.Float.Ieee.{lt, le}
use Rattle.bits.specs.Bytes.{every}
use Rattle.bits.specs.declared.Reach.{Reach}
use Rattle.bits.specs.declared.Reach.TheVariants.{Before, Inside, After}

-- The place that bisection of lo .. hi finds, in at most d turns: p says of a place whether its epoch is at or below the one asked.
-- It is defined by its own run, for any epochs, sorted or not. With d at least hi - lo it ends because lo meets hi.
unfoldable pub bisect : (ℕ → Bool) → ℕ → ℕ → ℕ → ℕ
bisect p zero lo hi = lo
bisect p (suc d) lo hi =
    let m = (lo + hi) / 2 in
    let up = bisect p d (m + 1) hi in
    let down = bisect p d lo m in
    cond (ltb lo hi) (cond (p m) up down) lo

-- The place before the one that the search over 0 .. n finds, and 0 if there is none.
unfoldable pub left_of : (ℕ → Bool) → ℕ → ℕ
unfolding bisect
left_of p n = bisect p n 0 n - 1

-- l: the place that the search for et finds among the n epochs from byte p on.
unfoldable pub left_at : List ℕ → ℕ → ℕ → Float → ℕ
left_at s p n et = left_of (λ k. le (every 8 s p k) et) n

-- c: how many records a window of degree d has among n.
unfoldable pub window_size : ℕ → ℕ → ℕ
window_size d n = min (d + 1) n

-- Where the window of c records around l starts among n: floor((c - 1) / 2) places before l, not before 0, and c places before n at the latest.
-- A difference that would be below 0 is 0.
unfoldable pub window_start : ℕ → ℕ → ℕ → ℕ
window_start l c n = min (l - (c - 1) / 2) (n - c)

-- Where et falls beside the epochs of n records: before the first where first ≤ et doesn't hold, else after the last where last < et, else inside.
unfoldable pub reach_in : (ℕ → Float) → ℕ → Float → Reach
reach_in epoch n et = cond (le (epoch 0) et) (cond (lt (epoch (n - 1)) et) After Inside) Before
