-- Worked cases of search, windows and Lagrange, which antt computes. Those of RULES, "Worked numbers", stand in `worked`.
-- Assumes nothing.
use mathlib.Core.Path.{◌≡◌, refl}
use mathlib.Core.List.{List, [], ◌∷◌, map}
use Prim.Native.Nat.{ℕ}
use lib.Ieee.{Float, nan, neg, add, sub, mul, div, eq, lt, le, of_bits, of_int}
use Rattle.bits.specs.F64.{at, whole}
use Rattle.interp.specs.Window.{left_of, window_size, reach_in}
use Rattle.bits.specs.declared.Reach.TheVariants.{Before, Inside, After}
use Rattle.interp.specs.Lagrange.{lagrange_of}

-- The largest degree of 64 bits doesn't wrap: of 3 records the window has 3.
pub case_degree : window_size 0xffff_ffff_ffff_ffff 3 ≡ 3
unfolding window_size
case_degree = refl

-- The place that the search for 1 finds among these epochs.
unfoldable pub left_of1 : List Float → ℕ
unfolding left_of le of_int
left_of1 xs = left_of (λ k. le (at xs k) (whole 1)) 3

-- Epochs 0, 1, 2: place 1. The unsorted 2, 1, 0: place 2, as the search runs.
pub case_search : map left_of1 ((whole 0 ∷ whole 1 ∷ whole 2 ∷ []) ∷ (whole 2 ∷ whole 1 ∷ whole 0 ∷ []) ∷ []) ≡ 1 ∷ 2 ∷ []
unfolding left_of1
case_search = refl

-- Epochs 0 and 2.
abbrev pub epochs : ℕ → Float
epochs = at (whole 0 ∷ whole 2 ∷ [])

-- Values 10 and 20: at the epoch 2 itself its value, 20.
pub case_lagrange : lagrange_of epochs (at (whole 10 ∷ whole 20 ∷ [])) 2 (whole 2) ≡ whole 20
unfolding lagrange_of add sub mul div eq of_bits of_int
case_lagrange = refl

-- -1 is before them, 0 and 2 themselves are inside as 1 is, and 3 is after.
pub case_reach : map (reach_in epochs 2) (neg (whole 1) ∷ whole 0 ∷ whole 1 ∷ whole 2 ∷ whole 3 ∷ []) ≡ Before ∷ Inside ∷ Inside ∷ Inside ∷ After ∷ []
unfolding reach_in lt le neg of_int
case_reach = refl

-- A first epoch that is NaN is at or below none; a last one is below none.
pub case_reach_nan : reach_in (at (nan ∷ whole 2 ∷ [])) 2 (whole 3) ∷ reach_in (at (whole 0 ∷ nan ∷ [])) 2 (whole 3) ∷ [] ≡ Before ∷ Inside ∷ []
unfolding reach_in lt le of_int
case_reach_nan = refl
