-- Hermite reads nothing but its c states and their epochs.
-- Assumes nothing.
use Prim.Native.Nat.{ℕ, ◌+◌, ◌*◌, ◌≤◌, ◌<◌}
use mathlib.Core.List.{List}
use mathlib.Core.Path.{◌≡◌, refl, ap, sym, ◌∙◌}
use native.Mathlib.Omega.{arith}
use lib.Ieee.{Float}
use Rattle.bits.specs.Bytes.{double_at, every}
use Rattle.bits.proofs.Agree.{Agree}
use Rattle.hermite.specs.Axes.{axis_at, hermite_at}
use Rattle.hermite.proofs.Same.{hermite_same}

-- a number of a state is a number of the run of doubles from byte q on, the six of a state in a row
in_row : (s : List ℕ) (q k b j : ℕ) → b ≡ q + 8 * k → every 48 s b j ≡ every 8 s q (k + 6 * j)
in_row s q k b j e =
    let there : b + 48 * j ≡ q + 8 * (k + 6 * j) = omega arith in
    ap (double_at s) there

-- a number that stands at one place of each of c states from byte q on
pub column_same : (s s' : List ℕ) (q c : ℕ) → Agree (every 8 s q) (every 8 s' q) (6 * c) → (k b : ℕ) → k < 6 → b ≡ q + 8 * k → Agree (every 48 s b) (every 48 s' b) c
column_same s s' q c states k b l t =
    record { same = λ j h. in_row s q k b j t ∙ states.same (k + 6 * j) (omega arith) ∙ sym (in_row s' q k b j t) }

-- c states from byte q on and their epochs from byte e on
module _ (s s' : List ℕ) (q e c : ℕ) (x : Float) (epochs : Agree (every 8 s e) (every 8 s' e) c) (states : Agree (every 8 s q) (every 8 s' q) (6 * c)) where
  axis_own : 1 ≤ c → (k b : ℕ) → k < 3 → b ≡ q + 8 * k → axis_at s b e c x ≡ axis_at s' b e c x
  axis_own p k b l t =
      hermite_same (every 8 s e) (every 8 s' e) (every 48 s b) (every 48 s' b) (every 48 s (b + 24)) (every 48 s' (b + 24)) c x epochs
      (column_same s s' q c states k b (omega arith) t) (column_same s s' q c states (k + 3) (b + 24) (omega arith) (omega arith)) p

  -- Six numbers by Hermite depend on nothing in the kernel but these.
  pub hermite_own : 1 ≤ c → hermite_at s q e c x ≡ hermite_at s' q e c x
  unfolding hermite_at
  hermite_own p = rw (axis_own p 0 q (omega arith) (omega arith), axis_own p 1 (q + 8) (omega arith) refl, axis_own p 2 (q + 16) (omega arith) refl)
