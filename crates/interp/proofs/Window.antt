-- A window has a record, and never leaves the segment; and where an epoch falls beside the segment's.
-- Assumes nothing.
use Prim.Native.Nat.{ℕ, ◌+◌, ◌-◌, ◌*◌, ◌≤◌}
use mathlib.Core.Path.{◌≡◌, sym, ap, ap₂, ◌∙◌}
use mathlib.Core.Bool.{Bool, true, false, cond}
use mathlib.Core.List.{List}
use native.Mathlib.Omega.{arith}
use lib.Ieee.{Float, lt, le}
use Rattle.bits.specs.Bytes.{double_at, every}
use Rattle.bits.specs.declared.Reach.TheVariants.{Before, Inside, After}
use Rattle.interp.specs.Window.{window_size, window_start, reach_in}
use Rattle.interp.specs.Discrete.{window_at, reach_at}

-- Of a segment with a record, a window has one, whatever the degree is.
pub size_some : (d n : ℕ) → 1 ≤ n → 1 ≤ window_size d n
unfolding window_size
size_some d n h = omega arith

-- It has no more than the segment.
pub size_most : (d n : ℕ) → window_size d n ≤ n
unfolding window_size
size_most d n = omega arith

-- It ends within the segment, whatever place the search found.
pub start_inside : (l c n : ℕ) → c ≤ n → window_start l c n + c ≤ n
unfolding window_start
start_inside l c n h = omega arith

-- The same of the window for et.
pub window_inside : (s : List ℕ) (p n d : ℕ) (et : Float) → window_at s p n d et + window_size d n ≤ n
unfolding window_at
window_inside s p n d et = start_inside _ (window_size d n) n (size_most d n)

-- So its size c and its start w lie in a segment that has a record.
pub window_fits : (s : List ℕ) (p n d : ℕ) (et : Float) {c w : ℕ} → c ≡ window_size d n → w ≡ window_at s p n d et → 1 ≤ n → (1 ≤ c) × (w + c ≤ n)
window_fits s p n d et size start some = rw (start, size) (size_some d n some, window_inside s p n d et)

-- ---- where et falls beside the epochs of a segment, by the two that are read

module _ (s : List ℕ) (p n : ℕ) (et first : Float) (f : first ≡ double_at s (p + 48 * n)) where
  first_is : first ≡ every 8 s (p + 48 * n) 0
  first_is = f ∙ ap (double_at s) (omega arith)

  pub before_first : le first et ≡ false → Before ≡ reach_at s p n et
  unfolding reach_in
  before_first h = sym (ap (λ (b : Bool). cond b (cond (lt (every 8 s (p + 48 * n) (n - 1)) et) After Inside) Before) (ap (λ (x : Float). le x et) (sym first_is) ∙ h))

  pub from_first : (last : Float) (b : Bool) → le first et ≡ true → last ≡ double_at s (p + 48 * n + 8 * (n - 1)) → lt last et ≡ b → cond b After Inside ≡ reach_at s p n et
  unfolding reach_in
  from_first last b h l e = sym (ap₂ (λ (x y : Bool). cond x (cond y After Inside) Before) (ap (λ (x : Float). le x et) (sym first_is) ∙ h) (ap (λ (x : Float). lt x et) (sym l) ∙ e))
