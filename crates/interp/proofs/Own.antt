-- Types 9 and 13 read nothing but their own segment: its n epochs, and the states of the window.
-- Assumes nothing.
use Prim.Native.Nat.{ℕ, ◌+◌, ◌-◌, ◌*◌, ◌≤◌, ◌<◌}
use mathlib.Core.List.{List}
use mathlib.Core.Path.{◌≡◌, ap, sym, ◌∙◌}
use native.Mathlib.Omega.{arith}
use lib.Ieee.{Float, le}
use Rattle.bits.specs.Bytes.{double_at, every}
use Rattle.bits.proofs.Agree.{Agree}
use Rattle.hermite.proofs.Own.{column_same, hermite_own}
use Rattle.interp.specs.Window.{left_at, window_size, reach_in}
use Rattle.interp.specs.Lagrange.{lagrange_of}
use Rattle.interp.specs.Discrete.{window_at, reach_at, lagrange_at, type9_of, type13_of}
use Rattle.interp.proofs.Same.{left_same, lagrange_same, six_same}
use Rattle.interp.proofs.Window.{size_some, window_inside}

-- Six numbers by Lagrange depend on nothing in the kernel but the c states from byte q on and their epochs from byte e on.
pub lagrange_own : (s s' : List ℕ) (q e c : ℕ) (x : Float) → Agree (every 8 s e) (every 8 s' e) c → Agree (every 8 s q) (every 8 s' q) (6 * c)
    → lagrange_at s q e c x ≡ lagrange_at s' q e c x
unfolding lagrange_at
lagrange_own s s' q e c x epochs states =
    six_same (λ b. lagrange_of (every 8 s e) (every 48 s b) c x) (λ b. lagrange_of (every 8 s' e) (every 48 s' b) c x) q
    (λ k b l t. lagrange_same (every 8 s e) (every 8 s' e) (every 48 s b) (every 48 s' b) c x epochs (column_same s s' q c states k b l t))

-- ---- a segment of n states from byte p on and their epochs after them

-- Two kernels agree on a segment as far as a question at et reads it: on its epochs, and on the states of the window.
pub record Alike (s s' : List ℕ) (p n d : ℕ) (et : Float) : Type 0 where
  pub epochs : (j : ℕ) → j < n → every 8 s (p + 48 * n) j ≡ every 8 s' (p + 48 * n) j
  pub states : (j : ℕ) → j < 6 * window_size d n → every 8 s (p + 48 * window_at s p n d et) j ≡ every 8 s' (p + 48 * window_at s p n d et) j

-- Kernels that agree on all 7n doubles of the segment are alike.
pub alike_whole : (s s' : List ℕ) (p n d : ℕ) (et : Float) → ((j : ℕ) → j < 7 * n → double_at s (p + 8 * j) ≡ double_at s' (p + 8 * j)) → Alike s s' p n d et
alike_whole s s' p n d et whole = record { epochs = λ j l. at_place (6 * n) j (p + 48 * n) (omega arith) (omega arith); states = in_window }
  where
    at_place : (k j b : ℕ) → b ≡ p + 8 * k → k + j < 7 * n → every 8 s b j ≡ every 8 s' b j
    at_place k j b t l =
        let there : b + 8 * j ≡ p + 8 * (k + j) = omega arith in
        ap (double_at s) there ∙ whole (k + j) l ∙ ap (double_at s') (sym there)

    in_window : (j : ℕ) → j < 6 * window_size d n → every 8 s (p + 48 * window_at s p n d et) j ≡ every 8 s' (p + 48 * window_at s p n d et) j
    in_window j l =
        let inside = window_inside s p n d et in
        at_place (6 * window_at s p n d et) j (p + 48 * window_at s p n d et) (omega arith) (omega arith)

module _ {s s' : List ℕ} {p n d : ℕ} {et : Float} (a : Alike s s' p n d et) where
  -- The window is the same.
  pub window_own : window_at s p n d et ≡ window_at s' p n d et
  unfolding window_at left_at
  window_own =
      rw (left_same (λ k. le (every 8 s (p + 48 * n) k) et) (λ k. le (every 8 s' (p + 48 * n) k) et) n (λ k l. ap (λ (y : Float). le y et) (a.epochs k l)))

  -- Where et falls beside the epochs is the same.
  pub reach_own : 1 ≤ n → reach_at s p n et ≡ reach_at s' p n et
  unfolding reach_in
  reach_own h = rw (a.epochs 0 h, a.epochs (n - 1) (omega arith))

  -- its epochs are among the segment's
  window_epochs : (w : ℕ) → w + window_size d n ≤ n → Agree (every 8 s (p + 48 * n + 8 * w)) (every 8 s' (p + 48 * n + 8 * w)) (window_size d n)
  window_epochs w inside = record { same = go }
    where
      go : (j : ℕ) → j < window_size d n → every 8 s (p + 48 * n + 8 * w) j ≡ every 8 s' (p + 48 * n + 8 * w) j
      go j l =
          let there : p + 48 * n + 8 * w + 8 * j ≡ p + 48 * n + 8 * (w + j) = omega arith in
          ap (double_at s) there ∙ a.epochs (w + j) (omega arith) ∙ ap (double_at s') (sym there)

  -- A type 9 state depends on nothing in the kernel but the segment's epochs and the window's states.
  pub type9_own : type9_of s p n d et ≡ type9_of s' p n d et
  unfolding type9_of
  type9_own =
      let w = window_at s p n d et in
      rw (← window_own)
      (lagrange_own s s' (p + 48 * w) (p + 48 * n + 8 * w) (window_size d n) et (window_epochs w (window_inside s p n d et)) (record { same = a.states }))

  -- The same of type 13.
  pub type13_own : 1 ≤ n → type13_of s p n d et ≡ type13_of s' p n d et
  unfolding type13_of
  type13_own h =
      let w = window_at s p n d et in
      rw (← window_own)
      (hermite_own s s' (p + 48 * w) (p + 48 * n + 8 * w) (window_size d n) et (window_epochs w (window_inside s p n d et)) (record { same = a.states }) (size_some d n h))
