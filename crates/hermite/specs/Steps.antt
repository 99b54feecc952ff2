-- What the small functions of the code do. No promise of an entry point needs these. Assumes nothing: these are definitions.
use Rattle.std.specs.Prelude.{ℕ, ◌+◌, Float, List}
use Rattle.bits.specs.F64.{◌⊕◌, ◌⊗◌, at}
use Rattle.hermite.specs.declared.Newton.{Newton}
use Rattle.hermite.specs.declared.Point.{Point}
use Rattle.hermite.specs.Hermite.{product, product', value_to, slope_to, difference, table_of}
use Rattle.bits.specs.Bytes.{every}

-- All four numbers of the Newton form up to order k.
abbrev pub newton_at : (ℕ → Float) → (ℕ → Float) → Float → ℕ → Newton
newton_at c z x k = record { val = value_to c z x k; der = slope_to c z x k; prod = product z x k; dprod = product' z x k }

-- One term more, with the coefficient c and the new factor u.
abbrev pub advanced : Newton → Float → Float → Newton
advanced s c u =
    record {
      val = s.val ⊕ c ⊗ (u ⊗ s.prod);
      der = s.der ⊕ c ⊗ (s.prod ⊕ u ⊗ s.dprod);
      prod = u ⊗ s.prod;
      dprod = s.prod ⊕ u ⊗ s.dprod;
    }

-- Number i of the column of order k for the axis at byte b, over the doubled nodes in z.
abbrev pub axis_column : List ℕ → ℕ → List Float → ℕ → ℕ → Float
axis_column s b z k i = difference (at z) (every 48 s b) (every 48 s (b + 24)) k i

-- The axis at byte b over the c doubled nodes in z.
abbrev pub axis_table : List ℕ → ℕ → List Float → ℕ → Float → Point
axis_table s b z c x = table_of (at z) (every 48 s b) (every 48 s (b + 24)) c x
