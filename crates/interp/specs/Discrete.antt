-- Types 9 and 13 over a kernel's bytes: n states of 48 bytes from byte p on, and after them their n epochs.
use Rattle.std.specs.Prelude.{ℕ, ◌+◌, ◌*◌, List, Float}
use Rattle.bits.specs.Bytes.{every}
use Rattle.bits.specs.declared.Reach.{Reach}
use Rattle.frame.specs.declared.State.{State}
use Rattle.hermite.specs.Axes.{hermite_at}
use Rattle.interp.specs.Window.{left_at, window_size, window_start, reach_in}
use Rattle.interp.specs.Lagrange.{lagrange_of}

-- The six numbers of a state, position and then velocity, where f gives the number that stands at a byte of the states.
abbrev pub six : (ℕ → Float) → ℕ → State
six f q = record { x = f q; y = f (q + 8); z = f (q + 16); vx = f (q + 24); vy = f (q + 32); vz = f (q + 40) }

-- Where the window for et starts.
unfoldable pub window_at : List ℕ → ℕ → ℕ → ℕ → Float → ℕ
window_at s p n d et = window_start (left_at s (p + 48 * n) n et) (window_size d n) n

-- Where et falls beside the segment's epochs.
abbrev pub reach_at : List ℕ → ℕ → ℕ → Float → Reach
reach_at s p n et = reach_in (every 8 s (p + 48 * n)) n et

-- Six numbers by Lagrange over c states from byte q on and their epochs from byte e on.
unfoldable pub lagrange_at : List ℕ → ℕ → ℕ → ℕ → Float → State
lagrange_at s q e c et = six (λ b. lagrange_of (every 8 s e) (every 48 s b) c et) q

-- Type 9 at et: n states from byte p on, of degree d.
unfoldable pub type9_of : List ℕ → ℕ → ℕ → ℕ → Float → State
type9_of s p n d et = let w = window_at s p n d et in lagrange_at s (p + 48 * w) (p + 48 * n + 8 * w) (window_size d n) et

-- Type 13 at et: n states from byte p on, of window size d + 1.
unfoldable pub type13_of : List ℕ → ℕ → ℕ → ℕ → Float → State
type13_of s p n d et = let w = window_at s p n d et in hermite_at s (p + 48 * w) (p + 48 * n + 8 * w) (window_size d n) et
