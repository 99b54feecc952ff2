-- Not all six numbers of a state are finite exactly where one of them is not, and which. Assumes nothing.
use Prim.Native.Nat.{ℕ, zero, suc, ◌<◌}
use mathlib.Core.Path.{◌≡◌, refl, sym, ◌∙◌}
use mathlib.Core.Bool.{Bool, true, false, ◌&&◌, true≢false}
use native.Mathlib.Omega.{arith}
use Rattle.bits.specs.F64.{finite}
use Rattle.bits.proofs.Tests.{by_test_lem}
use Rattle.frame.specs.declared.State.{State}
use Rattle.frame.specs.State.{number, finite_state}
use Rattle.frame.specs.Finite.{Infinite}

all_six : (a b c d e f : Bool) → (a && b && c && d && e && f) ≡ true → (a ≡ true) × (b ≡ true) × (c ≡ true) × (d ≡ true) × (e ≡ true) × (f ≡ true)
all_six true true true true true true h = (refl, refl, refl, refl, refl, refl)
all_six true true true true true false h = absurd (true≢false (sym h))
all_six true true true true false f h = absurd (true≢false (sym h))
all_six true true true false e f h = absurd (true≢false (sym h))
all_six true true false d e f h = absurd (true≢false (sym h))
all_six true false c d e f h = absurd (true≢false (sym h))
all_six false b c d e f h = absurd (true≢false (sym h))

module _ (s : State) where
  pub infinite_where : Infinite s → finite_state s ≡ false
  unfolding finite_state
  infinite_where w = by_test_lem (finite_state s) (λ t. absurd (none w.place w.below t w.not_finite)) (λ f. f)
    where
      each : finite_state s ≡ true → (finite (number s 0) ≡ true) × (finite (number s 1) ≡ true) × (finite (number s 2) ≡ true) × (finite (number s 3) ≡ true)
          × (finite (number s 4) ≡ true) × (finite (number s 5) ≡ true)
      each t = all_six (finite (number s 0)) (finite (number s 1)) (finite (number s 2)) (finite (number s 3)) (finite (number s 4)) (finite (number s 5)) t

      none : (k : ℕ) → k < 6 → finite_state s ≡ true → finite (number s k) ≡ false → ⊥
      none zero l t h = true≢false (sym (each t).0 ∙ h)
      none (suc zero) l t h = true≢false (sym (each t).1 ∙ h)
      none (suc (suc zero)) l t h = true≢false (sym (each t).2 ∙ h)
      none (suc (suc (suc zero))) l t h = true≢false (sym (each t).3 ∙ h)
      none (suc (suc (suc (suc zero)))) l t h = true≢false (sym (each t).4 ∙ h)
      none (suc (suc (suc (suc (suc zero))))) l t h = true≢false (sym (each t).5 ∙ h)
      none (suc (suc (suc (suc (suc (suc k)))))) l t h = let x = l in omega arith

  pub infinite_only : finite_state s ≡ false → Infinite s
  unfolding finite_state
  infinite_only h =
      at 0 (omega arith)
      (λ a. at 1 (omega arith)
      (λ b. at 2 (omega arith)
      (λ c. at 3 (omega arith)
      (λ d. at 4 (omega arith)
      (λ e. at 5 (omega arith) (λ f. absurd (true≢false (sym (finite_six a b c d e f) ∙ h))))))))
    where
      at : (k : ℕ) → k < 6 → (finite (number s k) ≡ true → Infinite s) → Infinite s
      at k l next = by_test_lem (finite (number s k)) next (λ f. record { place = k; below = l; not_finite = f })

      finite_six : finite (number s 0) ≡ true → finite (number s 1) ≡ true → finite (number s 2) ≡ true → finite (number s 3) ≡ true
          → finite (number s 4) ≡ true → finite (number s 5) ≡ true → finite_state s ≡ true
      finite_six a b c d e f = rw (a, b, c, d, e, f)
