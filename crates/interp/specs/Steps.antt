-- What the small functions of the code do. No promise of an entry point needs these. Assumes nothing: these are definitions.
use Rattle.std.specs.Prelude.{ℕ, ◌+◌, ◌*◌, List, Float}
use Rattle.bits.specs.F64.{◌⊕◌, ◌⊗◌, ◌⊘◌}
use Rattle.frame.specs.declared.State.{State}
use Rattle.interp.specs.declared.Records.{Records}
use Rattle.interp.specs.Window.{window_size}
use Rattle.interp.specs.Discrete.{window_at}

-- The window for et in a segment of n states from byte p on, of degree d.
abbrev pub records_of : List ℕ → ℕ → ℕ → ℕ → Float → Records
records_of s p n d et = let w = window_at s p n d et in record { states = p + 48 * w; epochs = p + 48 * n + 8 * w; count = window_size d n }

-- A share of each number of y, added to that of sum.
abbrev pub with_share : State → Float → State → State
with_share sum share y =
    record {
      x = sum.x ⊕ share ⊗ y.x;
      y = sum.y ⊕ share ⊗ y.y;
      z = sum.z ⊕ share ⊗ y.z;
      vx = sum.vx ⊕ share ⊗ y.vx;
      vy = sum.vy ⊕ share ⊗ y.vy;
      vz = sum.vz ⊕ share ⊗ y.vz;
    }

-- Each number over the same one.
abbrev pub over_all : State → Float → State
over_all sum all =
    record { x = sum.x ⊘ all; y = sum.y ⊘ all; z = sum.z ⊘ all; vx = sum.vx ⊘ all; vy = sum.vy ⊘ all; vz = sum.vz ⊘ all }
