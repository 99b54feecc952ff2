-- Laws of `last_in`: one for each way through a loop that goes down, what a choice tells of its number, and when one segment alone
-- passes the test. Assumes nothing.
use mathlib.Core.Path.{◌≡◌, refl, sym, ap, ◌∙◌, subst}
use mathlib.Core.Logic.{⊎_elim}
use mathlib.Core.Bool.{Bool, true, false, cond}
use mathlib.Core.List.{List}
use Prim.Native.Nat.{ℕ, zero, suc, ◌≤◌, ◌<◌}
use native.Mathlib.Nat.{not-suc-le-zero, le_of_suc-le-suc, eq-or-lt_of_le}
use native.Mathlib.Omega.{arith}
use Rattle.bits.proofs.Tests.{by_test_lem}
use Rattle.segment.specs.declared.Segment.{Segment}
use Rattle.std.proofs.Common.{Option, Some, None}
use Rattle.table.specs.Segments.{seg}
use Rattle.table.specs.Choosing.{last_in}
use Rattle.std.specs.Option.{option_or}

module _ (test : Segment → Bool) (segs : List Segment) where
  -- nothing is left
  pub last_none : (i : ℕ) → i ≡ 0 → last_in test segs i ≡ None
  unfolding last_in
  last_none i e = ap (last_in test segs) e

  -- the last that is left passes the test or not
  pub last_turn : (i k : ℕ) (b : Bool) → i ≡ suc k → test (seg segs k) ≡ b → last_in test segs i ≡ cond b (Some k) (last_in test segs k)
  unfolding last_in
  last_turn i k b e h = ap (last_in test segs) e ∙ ap (λ (t : Bool). cond t (Some k) (last_in test segs k)) h

  -- a choice, where there is one, is below a bound and passes the test
  abbrev pub Chosen : ℕ → Option ℕ → Type 0
  Chosen n (Some i) = (i < n) × (test (seg segs i) ≡ true)
  Chosen n None = Unit {0}

  pub chosen_at : (n : ℕ) (c : Option ℕ) (i : ℕ) → c ≡ Some i → Chosen n c → (i < n) × (test (seg segs i) ≡ true)
  chosen_at n c i e h = subst (Chosen n) e h

  pub chosen_else : (n : ℕ) (x y : Option ℕ) → Chosen n x → Chosen n y → Chosen n (option_or x y)
  chosen_else n (Some i) y p q = p
  chosen_else n None y p q = q

  chosen_more : (n k : ℕ) → k ≤ n → Chosen n (last_in test segs k)
  unfolding last_in
  chosen_more n zero h = tt
  chosen_more n (suc k) h =
      by_test_lem (test (seg segs k))
      (λ e. subst (λ (b : Bool). Chosen n (cond b (Some k) (last_in test segs k))) (sym e) (omega arith, e))
      (λ e. subst (λ (b : Bool). Chosen n (cond b (Some k) (last_in test segs k))) (sym e) (chosen_more n k (omega arith)))

  pub last_chosen : (n : ℕ) → Chosen n (last_in test segs n)
  last_chosen n = chosen_more n n (omega arith)

  -- a segment that alone passes is the last that does
  pub last_alone : (i n : ℕ) → i < n → test (seg segs i) ≡ true
      → ((j : ℕ) → j < n → (j ≡ i → ⊥) → test (seg segs j) ≡ false) → last_in test segs n ≡ Some i
  last_alone i zero h y f = absurd (not-suc-le-zero h)
  last_alone i (suc n) h y f =
      ⊎_elim
      (λ (e : i ≡ n). last_turn (suc n) n true refl (ap (λ (k : ℕ). test (seg segs k)) (sym e) ∙ y) ∙ ap Some (sym e))
      (λ l. last_turn (suc n) n false refl (f n (omega arith) (omega arith)) ∙ last_alone i n l y (λ j b. f j (omega arith)))
      (eq-or-lt_of_le (le_of_suc-le-suc h))
