-- Lagrange interpolation as the Rust has it: f and g give the nodes and the values by their place, and there are n of each.
use Rattle.std.specs.Prelude.{ℕ, zero, suc, cond, eqb, ltb, Float}
use Rattle.std.specs.Float.Ieee.{eq}
use Rattle.bits.specs.F64.{◌⊖◌, ◌⊗◌, ◌⊘◌, one, sum_from0}

-- The first place from i on, among d, whose node equals x; i + d if there is none.
unfoldable pub node_from : (ℕ → Float) → Float → ℕ → ℕ → ℕ
node_from f x zero i = i
node_from f x (suc d) i = let later = node_from f x d (suc i) in cond (eq (f i) x) i later

-- The first of n places whose node equals x; n if there is none.
unfoldable pub node_of : (ℕ → Float) → ℕ → Float → ℕ
unfolding node_from
node_of f n x = node_from f x n 0

-- 1 (f i - f 0) .. (f i - f (j - 1)), without the factor of i itself.
unfoldable pub factors : (ℕ → Float) → ℕ → ℕ → Float
factors f i zero = one
factors f i (suc j) = cond (eqb i j) (factors f i j) (factors f i j ⊗ (f i ⊖ f j))

-- The barycentric weight of node i.
unfoldable pub weight_of : (ℕ → Float) → ℕ → ℕ → Float
unfolding factors
weight_of f n i = one ⊘ factors f i n

-- The share of node i at x, which stands in both sums.
abbrev pub share_of : (ℕ → Float) → ℕ → Float → ℕ → Float
share_of f n x i = weight_of f n i ⊘ (x ⊖ f i)

-- The barycentric sum.
abbrev pub blend_of : (ℕ → Float) → (ℕ → Float) → ℕ → Float → Float
blend_of f g n x = sum_from0 (λ i. share_of f n x i ⊗ g i) n ⊘ sum_from0 (share_of f n x) n

-- The shortcut, the value of the first node that is x itself, and otherwise the sum.
unfoldable pub lagrange_of : (ℕ → Float) → (ℕ → Float) → ℕ → Float → Float
unfolding node_of weight_of
lagrange_of f g n x = let blend = blend_of f g n x in cond (ltb (node_of f n x) n) (g (node_of f n x)) blend
