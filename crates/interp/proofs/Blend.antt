-- The loops of Lagrange interpolation, turn by turn.
-- Assumes nothing.
use Prim.Native.Nat.{ℕ, zero, suc, ◌+◌, ◌≤◌, ◌<◌}
use mathlib.Core.Bool.{Bool, true, false}
use mathlib.Core.List.{List, [], ◌∷◌}
use mathlib.Core.Path.{◌≡◌, refl, sym, ap, ◌∙◌}
use native.Mathlib.Nat.{add-zero, zero-add}
use lib.ListN.{length, take}
use lib.Seq.{get_or-take, length-take-le}
use Rattle.std.specs.Prelude.{Option, Some, None, cond, nat_lt}
use Rattle.std.specs.List.{position, position_or_len}
use native.Mathlib.Numerals.{add-one}
use native.Mathlib.Omega.{arith}
use lib.Ieee.{Float, nan, eq}
use borrow.Author.Tests.{eq-eqb, ne_eqb, lt-ltb, le-ltb, ltb-true, ltb-false}
use Rattle.bits.specs.F64.{◌⊕◌, ◌⊖◌, ◌⊗◌, ◌⊘◌, at, sum_from0}
use Rattle.interp.specs.Lagrange.{node_from, node_of, factors, weight_of, share_of, blend_of, lagrange_of}
use Rattle.interp.specs.Discrete.{six}
use Rattle.interp.specs.Steps.{with_share}
use Rattle.frame.specs.declared.State.{State}

-- x is a node
abbrev pub is_node : Float → Float → Bool
is_node x v = eq v x

-- what is said of places 0, 1, .. of a list is said of place i and those after it
node_is : (x : Float) (f : ℕ → Float) (ys : List Float) (i : ℕ) → ((k : ℕ) → k < length ys → f (i + k) ≡ at ys k) → node_from f x (length ys) i ≡ i + position_or_len (is_node x) ys
unfolding node_from
node_is x f [] i h = simp add-zero
node_is x f (y ∷ ys) i h =
    go (node_is x f ys (suc i) (λ k l. let e : suc i + k ≡ i + suc k = omega arith in ap f e ∙ h (suc k) (omega arith))) (eq y x) refl
  where
    here : f i ≡ y
    here = sym (ap f (add-zero i)) ∙ h 0 (omega arith)

    go : node_from f x (length ys) (suc i) ≡ suc i + position_or_len (is_node x) ys → (b : Bool) → eq y x ≡ b
        → node_from f x (suc (length ys)) i ≡ i + position_or_len (is_node x) (y ∷ ys)
    go later true e = rw (here, e) (sym (add-zero i))
    go later false e = rw (here, e, later) (omega arith)

-- the first of the first c that is x, as the definition counts it
nodes_are : (xs : List Float) (x : Float) (c : ℕ) → c ≤ length xs → node_of (at xs) c x ≡ position_or_len (is_node x) (take c xs)
unfolding node_of
nodes_are xs x c h =
    let l : length (take c xs) ≡ c = length-take-le c xs h in
    ap (λ (n : ℕ). node_from (at xs) x n 0) (sym l) ∙ node_is x (at xs) (take c xs) 0 (λ k p. rw (zero-add k) (sym (get_or-take c xs k nan (omega arith)))) ∙ zero-add _

-- what a position among m places says of the place k, which is m where there is none
some_place : (k m : ℕ) {i : ℕ} → Some i ≡ cond (nat_lt k m) (Some k) None → (i ≡ k) × (i < m)
some_place k m {i} e = go (nat_lt k m) refl e
  where
    go : (b : Bool) → nat_lt k m ≡ b → Some i ≡ cond b (Some k) None → (i ≡ k) × (i < m)
    go true t q = let s : i ≡ k = cc in let l = ltb-true k m t in (s, omega arith)
    go false t q = absurd (let z : ◌≡◌ {A = ℕ} 0 1 = cc in omega arith)

no_place : (k m : ℕ) → ◌≡◌ {A = Option ℕ} None (cond (nat_lt k m) (Some k) None) → m ≤ k
no_place k m e = go (nat_lt k m) refl e
  where
    go : (b : Bool) → nat_lt k m ≡ b → ◌≡◌ {A = Option ℕ} None (cond b (Some k) None) → m ≤ k
    go true t q = absurd (let z : ◌≡◌ {A = ℕ} 0 1 = cc in omega arith)
    go false t q = ltb-false k m t

-- one was found: it is the first, and among the c
pub node_found : (xs : List Float) (x : Float) (c : ℕ) {i : ℕ} → c ≤ length xs → Some i ≡ position (is_node x) (take c xs) → (i ≡ node_of (at xs) c x) × (i < c)
node_found xs x c {i} h e =
    let l : length (take c xs) ≡ c = length-take-le c xs h in
    let s = some_place (position_or_len (is_node x) (take c xs)) (length (take c xs)) e in
    (s.0 ∙ sym (nodes_are xs x c h), omega arith)

-- none was found
pub node_missing : (xs : List Float) (x : Float) (c : ℕ) → c ≤ length xs → None ≡ position (is_node x) (take c xs) → c ≤ node_of (at xs) c x
node_missing xs x c h e =
    let l : length (take c xs) ≡ c = length-take-le c xs h in
    let s = no_place (position_or_len (is_node x) (take c xs)) (length (take c xs)) e in
    omega (arith, nodes_are xs x c h)

module _ (f : ℕ → Float) (i j : ℕ) {w w' : Float} where
  -- the factor of another node
  pub factors_more : (i ≡ j → ⊥) → w ≡ factors f i j → w' ≡ w ⊗ (f i ⊖ f j) → w' ≡ factors f i (j + 1)
  unfolding factors
  factors_more h e e' = rw (e', e, add-one j, ne_eqb i j h)

  -- no factor of the node itself
  pub factors_same : i ≡ j → w ≡ factors f i j → w' ≡ w → w' ≡ factors f i (j + 1)
  unfolding factors
  factors_same h e e' = rw (e', e, add-one j, eq-eqb i j h)

-- one term more in each sum: g gives the number that stands at a byte of each state
module _ (f : ℕ → Float) (g : ℕ → ℕ → Float) (q n : ℕ) (x : Float) (i : ℕ) {w : Float} (ew : w ≡ weight_of f n i) where
  pub sums_more : {sum y sum' : State} → sum ≡ six (λ b. sum_from0 (λ j. share_of f n x j ⊗ g b j) i) q → y ≡ six (λ b. g b i) q
      → sum' ≡ with_share sum (w ⊘ (x ⊖ f i)) y → sum' ≡ six (λ b. sum_from0 (λ j. share_of f n x j ⊗ g b j) (i + 1)) q
  sums_more e ey e' = rw (e', e, ey, ew, add-one i)

  pub shares_more : {all : Float} → all ≡ sum_from0 (share_of f n x) i → all ⊕ w ⊘ (x ⊖ f i) ≡ sum_from0 (share_of f n x) (i + 1)
  shares_more e = rw (e, ew, add-one i)

-- what the node found makes of the interpolation
module _ (f : ℕ → Float) (n : ℕ) (x : Float) {i : ℕ} (e : i ≡ node_of f n x) where
  -- x is a node
  pub at_node : i < n → (g : ℕ → Float) → g i ≡ lagrange_of f g n x
  unfolding lagrange_of
  at_node h g = rw (← e, lt-ltb i n h)

  -- it is none
  pub off_node : n ≤ i → (g : ℕ → Float) → blend_of f g n x ≡ lagrange_of f g n x
  unfolding lagrange_of
  off_node h g = rw (← e, le-ltb i n h)
