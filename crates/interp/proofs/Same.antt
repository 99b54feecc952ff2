-- What the definitions read: the search the n epochs, and Lagrange the first n nodes and values.
-- Assumes nothing.
use Prim.Native.Nat.{ℕ, zero, suc, ◌+◌, ◌*◌, ◌/◌, ◌≤◌, ◌<◌}
use mathlib.Core.Bool.{Bool, true, false, cond}
use mathlib.Core.List.{List}
use mathlib.Core.Path.{◌≡◌, refl, ap, ap₂, sym, ◌∙◌}
use native.Mathlib.Omega.{arith}
use lib.Dec.{ltb}
use lib.Ieee.{Float, eq}
use borrow.Author.Tests.{ltb-true, ltb-false, le-ltb}
use Rattle.bits.specs.Bytes.{every}
use Rattle.bits.specs.F64.{◌⊗◌, ◌⊘◌}
use Rattle.bits.proofs.Agree.{Agree, sum_agree}
use Rattle.interp.specs.Window.{bisect, left_of}
use Rattle.interp.specs.Lagrange.{node_from, node_of, factors, weight_of, share_of, blend_of, lagrange_of}
use Rattle.interp.specs.Discrete.{six, lagrange_at}
use Rattle.interp.proofs.Search.{bisect_end}
use Rattle.interp.proofs.Blend.{at_node, off_node}

-- ---- the search

module _ (p p' : ℕ → Bool) (n : ℕ) (same : (k : ℕ) → k < n → p k ≡ p' k) where
  bisect_same : (d lo hi : ℕ) → hi ≤ n → bisect p d lo hi ≡ bisect p' d lo hi
  unfolding bisect
  bisect_same zero lo hi l = refl
  bisect_same (suc d) lo hi l = go (bisect_same d) (ltb lo hi) refl
    where
      go : ((lo hi : ℕ) → hi ≤ n → bisect p d lo hi ≡ bisect p' d lo hi) → (b : Bool) → ltb lo hi ≡ b → bisect p (suc d) lo hi ≡ bisect p' (suc d) lo hi
      go rest false e = let met = ltb-false lo hi e in bisect_end p (suc d) lo hi met ∙ sym (bisect_end p' (suc d) lo hi met)
      go rest true e =
          let apart = ltb-true lo hi e in
          rw (e, same ((lo + hi) / 2) (omega arith), rest ((lo + hi) / 2 + 1) hi l, rest lo ((lo + hi) / 2) (omega arith))

  pub left_same : left_of p n ≡ left_of p' n
  unfolding left_of
  left_same = rw (bisect_same n 0 n (omega arith))

-- ---- Lagrange

module _ (f f' : ℕ → Float) (n : ℕ) (x : Float) (e : Agree f f' n) where
  node_same : (d i : ℕ) → i + d ≤ n → node_from f x d i ≡ node_from f' x d i
  unfolding node_from
  node_same zero i l = refl
  node_same (suc d) i l =
      ap₂ (λ (b : Bool) (later : ℕ). cond b i later) (ap (λ (y : Float). eq y x) (e.same i (omega arith))) (node_same d (suc i) (omega arith))

  factors_agree : (i j : ℕ) → i < n → j ≤ n → factors f i j ≡ factors f' i j
  unfolding factors
  factors_agree i zero h l = refl
  factors_agree i (suc j) h l =
      let before = factors_agree i j h (omega arith) in
      rw (before, e.same i h, e.same j (omega arith))

  share_same : (i : ℕ) → i < n → share_of f n x i ≡ share_of f' n x i
  unfolding weight_of
  share_same i h = rw (factors_agree i n h (omega arith), e.same i h)

-- past the last node, what stands for a value is never read
pick_same : (b : Bool) (y y' u u' : Float) → (b ≡ true → y ≡ y') → u ≡ u' → cond b y u ≡ cond b y' u'
pick_same true y y' u u' p q = p refl
pick_same false y y' u u' p q = q

pub lagrange_same : (f f' g g' : ℕ → Float) (n : ℕ) (x : Float) → Agree f f' n → Agree g g' n → lagrange_of f g n x ≡ lagrange_of f' g' n x
unfolding lagrange_of
lagrange_same f f' g g' n x e e' =
    rw (node_same f f' n x e n 0 (omega arith))
    (pick_same (ltb (node_of f' n x) n) (g (node_of f' n x)) (g' (node_of f' n x)) _ _ (λ t. e'.same (node_of f' n x) (ltb-true (node_of f' n x) n t))
    (ap₂ (λ (u l : Float). u ⊘ l)
    (sum_agree (λ i. share_of f n x i ⊗ g i) (λ i. share_of f' n x i ⊗ g' i) n (λ k l. ap₂ (λ (u v : Float). u ⊗ v) (share_same f f' n x e k l) (e'.same k l)))
    (sum_agree (share_of f n x) (share_of f' n x) n (share_same f f' n x e))))

-- ---- the six numbers of a state

-- Two rules for a number that agree at the six bytes of a state give the same state.
pub six_same : (f f' : ℕ → Float) (q : ℕ) → ((k b : ℕ) → k < 6 → b ≡ q + 8 * k → f b ≡ f' b) → six f q ≡ six f' q
six_same f f' q e =
    rw (
      e 0 q (omega arith) (omega arith),
      e 1 (q + 8) (omega arith) refl,
      e 2 (q + 16) (omega arith) refl,
      e 3 (q + 24) (omega arith) refl,
      e 4 (q + 32) (omega arith) refl,
      e 5 (q + 40) (omega arith) refl,
    )

-- ---- nodes that were read from the kernel into an array

module _ (s : List ℕ) (q e c : ℕ) (x : Float) (f : ℕ → Float) (read : Agree f (every 8 s e) c) {i : ℕ} (found : i ≡ node_of f c x) where
  -- the nodes are the kernel's epochs, whatever the values are
  from_kernel : (g : ℕ → Float) → lagrange_of f g c x ≡ lagrange_of (every 8 s e) g c x
  from_kernel g = lagrange_same f (every 8 s e) g g c x read (record { same = λ j h. refl })

  -- x is a node: the stored state
  pub stored_at : i < c → six (λ b. every 48 s b i) q ≡ lagrange_at s q e c x
  unfolding lagrange_at
  stored_at l =
      six_same (λ b. every 48 s b i) (λ b. lagrange_of (every 8 s e) (every 48 s b) c x) q
      (λ k b h t. at_node f c x found l (every 48 s b) ∙ from_kernel (every 48 s b))

  -- it is none: the sums
  pub blend_at : c ≤ i → six (λ b. blend_of f (every 48 s b) c x) q ≡ lagrange_at s q e c x
  unfolding lagrange_at
  blend_at l =
      six_same (λ b. blend_of f (every 48 s b) c x) (λ b. lagrange_of (every 8 s e) (every 48 s b) c x) q
      (λ k b h t. off_node f c x found l (every 48 s b) ∙ from_kernel (every 48 s b))
