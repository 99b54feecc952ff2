-- Laws of a walk through any index: one for each way through the loop that makes it. Assumes nothing.
use mathlib.Core.Path.{◌≡◌, refl, sym, ap, ◌∙◌}
use mathlib.Core.Logic.{⊎_elim}
use mathlib.Core.Bool.{Bool, cond}
use mathlib.Core.List.{List, [], ◌∷◌}
use Prim.Native.Nat.{ℕ, zero, suc, ◌+◌, ◌-◌, ◌≤◌, ◌<◌}
use native.Mathlib.Nat.{not-suc-le-zero, le_of_suc-le-suc, eq-or-lt_of_le}
use native.Mathlib.Omega.{arith}
use lib.ListN.{get_or}
use borrow.Author.Tests.{eq-eqb, ne_eqb}
use Rattle.segment.specs.declared.Segment.{Segment}
use Rattle.std.proofs.Common.{Some, None}
use Rattle.table.specs.Segments.{seg}
use Rattle.index.specs.Visiting.{down, up, chosen_of}

module _ (links : List ℕ) where
  -- ---- the walk down
  -- what a place gives, by the test
  down_by : ℕ → ℕ → Bool → List ℕ
  down_by k e b = cond b (k ∷ down links k (cond b (get_or links k 0) e)) (down links k (cond b (get_or links k 0) e))

  -- the entry names the last place
  pub down_here : (k e : ℕ) → e ≡ suc k → down links (suc k) e ≡ k ∷ down links k (get_or links k 0)
  unfolding down down_by
  down_here k e h = ap (down_by k e) (eq-eqb e (suc k) h)

  -- it names another
  pub down_past : (k e : ℕ) → (e ≡ suc k → ⊥) → down links (suc k) e ≡ down links k e
  unfolding down down_by
  down_past k e h = ap (down_by k e) (ne_eqb e (suc k) h)

  -- it names none of the first k
  pub down_none : (k e : ℕ) → e ≡ 0 → down links k e ≡ []
  unfolding down
  down_none zero e h = refl
  down_none (suc k) e h = down_past k e (omega arith) ∙ down_none k e h

  pub down_out : (k e : ℕ) → k < e → down links k e ≡ []
  unfolding down
  down_out zero e h = refl
  down_out (suc k) e h = down_past k e (omega arith) ∙ down_out k e (omega arith)

  -- it names one of them
  pub down_at : (k i e : ℕ) → i < k → e ≡ suc i → down links k e ≡ i ∷ down links i (get_or links i 0)
  down_at zero i e l h = absurd (not-suc-le-zero l)
  down_at (suc k) i e l h =
      ⊎_elim
      (λ (q : i ≡ k). down_here k e (omega arith) ∙ ap (λ (x : ℕ). x ∷ down links x (get_or links x 0)) (sym q))
      (λ l'. down_past k e (omega arith) ∙ down_at k i e l' h)
      (eq-or-lt_of_le (le_of_suc-le-suc l))

  -- ---- the walk up
  up_by : ℕ → ℕ → ℕ → Bool → List ℕ
  up_by i r e b = cond b (i ∷ up links (suc i) r (cond b (get_or links i 0) e)) (up links (suc i) r (cond b (get_or links i 0) e))

  pub up_here : (i r e : ℕ) → e ≡ suc i → up links i (suc r) e ≡ i ∷ up links (suc i) r (get_or links i 0)
  unfolding up up_by
  up_here i r e h = ap (up_by i r e) (eq-eqb e (suc i) h)

  pub up_past : (i r e : ℕ) → (e ≡ suc i → ⊥) → up links i (suc r) e ≡ up links (suc i) r e
  unfolding up up_by
  up_past i r e h = ap (up_by i r e) (ne_eqb e (suc i) h)

  -- the entry names none from i on
  pub up_none : (i r e : ℕ) → e ≤ i → up links i r e ≡ []
  unfolding up
  up_none i zero e h = refl
  up_none i (suc r) e h = up_past i r e (omega arith) ∙ up_none (suc i) r e (omega arith)

  -- it names one past them all
  pub up_out : (i r e : ℕ) → i + r < e → up links i r e ≡ []
  unfolding up
  up_out i zero e h = refl
  up_out i (suc r) e h = up_past i r e (omega arith) ∙ up_out (suc i) r e (omega arith)

  -- it names one of them
  pub up_at : (i r j e : ℕ) → i ≤ j → j < i + r → e ≡ suc j → up links i r e ≡ j ∷ up links (suc j) (i + r - suc j) (get_or links j 0)
  up_at i zero j e l m h = let none : ⊥ = omega arith in absurd none
  up_at i (suc r) j e l m h =
      ⊎_elim
      (λ (q : i ≡ j).
      up_here i r e (omega arith)
      ∙ ap (λ (x : ℕ). x ∷ up links (suc x) r (get_or links x 0)) q
      ∙ ap (λ (x : ℕ). j ∷ up links (suc j) x (get_or links j 0)) (omega arith))
      (λ l'.
      up_past i r e (omega arith)
      ∙ up_at (suc i) r j e l' (omega arith) h
      ∙ ap (λ (x : ℕ). j ∷ up links (suc j) x (get_or links j 0)) (omega arith))
      (eq-or-lt_of_le l)

-- ---- the first that passes
module _ (test : Segment → Bool) (segs : List Segment) where
  pub chosen_none : chosen_of test segs [] ≡ None
  unfolding chosen_of
  chosen_none = refl

  pub chosen_turn : (i : ℕ) (rest : List ℕ) (b : Bool) → test (seg segs i) ≡ b → chosen_of test segs (i ∷ rest) ≡ cond b (Some i) (chosen_of test segs rest)
  unfolding chosen_of
  chosen_turn i rest b h = ap (λ (t : Bool). cond t (Some i) (chosen_of test segs rest)) h
