-- Bisection, turn by turn: what the loop's invariant needs, for any p.
-- Assumes nothing.
use Prim.Native.Nat.{ℕ, zero, suc, ◌+◌, ◌/◌, ◌≤◌, ◌<◌}
use mathlib.Core.Bool.{Bool, true, false}
use mathlib.Core.Path.{◌≡◌, refl, sym, ◌∙◌}
use native.Mathlib.Omega.{arith}
use borrow.Author.Tests.{lt-ltb, le-ltb}
use Rattle.interp.specs.Window.{bisect}

module _ (p : ℕ → Bool) where
  pub bisect_end : (d lo hi : ℕ) → hi ≤ lo → bisect p d lo hi ≡ lo
  unfolding bisect
  bisect_end zero lo hi h = refl
  bisect_end (suc d) lo hi h = rw (le-ltb lo hi h, bisect)

  pub bisect_up : (d lo hi : ℕ) → lo < hi → p ((lo + hi) / 2) ≡ true → bisect p (suc d) lo hi ≡ bisect p d ((lo + hi) / 2 + 1) hi
  unfolding bisect
  bisect_up d lo hi h e = rw (lt-ltb lo hi h, e, bisect)

  pub bisect_down : (d lo hi : ℕ) → lo < hi → p ((lo + hi) / 2) ≡ false → bisect p (suc d) lo hi ≡ bisect p d lo ((lo + hi) / 2)
  unfolding bisect
  bisect_down d lo hi h e = rw (lt-ltb lo hi h, e, bisect)

  -- r is what the search finds from lo and hi, with turns enough left
  abbrev pub Comes : ℕ → ℕ → ℕ → Type 0
  Comes r lo hi = (d : ℕ) × (hi ≤ lo + d) × (bisect p d lo hi ≡ r)

  pub comes_up : (r lo hi : ℕ) → lo < hi → p ((lo + hi) / 2) ≡ true → Comes r lo hi → Comes r ((lo + hi) / 2 + 1) hi
  comes_up r lo hi h e c = go c.0 c.1 c.2
    where
      go : (d : ℕ) → hi ≤ lo + d → bisect p d lo hi ≡ r → Comes r ((lo + hi) / 2 + 1) hi
      go zero l q = absurd (omega arith)
      go (suc d) l q = (d, omega arith, sym (bisect_up d lo hi h e) ∙ q)

  pub comes_down : (r lo hi : ℕ) → lo < hi → p ((lo + hi) / 2) ≡ false → Comes r lo hi → Comes r lo ((lo + hi) / 2)
  comes_down r lo hi h e c = go c.0 c.1 c.2
    where
      go : (d : ℕ) → hi ≤ lo + d → bisect p d lo hi ≡ r → Comes r lo ((lo + hi) / 2)
      go zero l q = absurd (omega arith)
      go (suc d) l q = (d, omega arith, sym (bisect_down d lo hi h e) ∙ q)
