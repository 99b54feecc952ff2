-- Hermite over a kernel's bytes: states of 48 bytes, position and then velocity, and their epochs.
use Rattle.std.specs.Prelude.{ℕ, ◌+◌, List, Float}
use Rattle.bits.specs.Bytes.{every}
use Rattle.frame.specs.declared.State.{State}
use Rattle.hermite.specs.declared.Point.{Point}
use Rattle.hermite.specs.Hermite.{hermite_of}

-- One axis: its positions stand at byte b and every 48 bytes after, its velocities 24 bytes after them, and the c epochs from byte e on.
abbrev pub axis_at : List ℕ → ℕ → ℕ → ℕ → Float → Point
axis_at s b e c x = hermite_of (every 8 s e) (every 48 s b) (every 48 s (b + 24)) c x

-- Six numbers over c states from byte q on and their epochs from byte e on: an axis' position is its value, its velocity the derivative.
unfoldable pub hermite_at : List ℕ → ℕ → ℕ → ℕ → Float → State
hermite_at s q e c x =
    let a = axis_at s q e c x in
    let b = axis_at s (q + 8) e c x in
    let d = axis_at s (q + 16) e c x in
    record { x = a.value; y = b.value; z = d.value; vx = a.slope; vy = b.slope; vz = d.slope }
