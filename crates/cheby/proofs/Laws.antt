-- What a turn of the loops does to the definitions. Each law takes what the calls of the turn ensure as equations, so that a proof only hands them over.
-- Assumes nothing.
use Prim.Native.Nat.{ℕ, zero, suc, ◌<◌}
use mathlib.Core.Path.{◌≡◌, refl, sym, ap, ◌∙◌}
use mathlib.Core.List.{List}
use native.Mathlib.Omega.{arith}
use lib.Ieee.{Float}
use Rattle.bits.specs.F64.{◌⊕◌, ◌⊖◌, ◌⊗◌, two, one}
use Rattle.cheby.specs.declared.Triple.{Triple}
use Rattle.cheby.specs.Cheby.{T, T', series_at, slope_at}
use Rattle.cheby.specs.declared.Run.{Run}
use Rattle.cheby.specs.declared.SixRun.{SixRun}
use Rattle.cheby.specs.Steps.{each, none, values, slopes, scaled, added, begun, turned, six_turned, Summed, SixSummed}

-- series that stand at the same place
pub each_at : (g : (ℕ → Float) → Float) {kernel kernel' : List ℕ} {q q' n n' : ℕ} {r : Triple} → (kernel ≡ kernel') × (q ≡ q') × (n ≡ n') → r ≡ each g kernel q n → r ≡ each g kernel' q' n'
each_at g e h = h ∙ (λ i. each g (e.0 i) (e.1 i) (e.2 i))

module _ (s : Float) (j : ℕ) where
  -- the next polynomial
  pub T-turn : {t₀ t₁ : Float} → t₀ ≡ T s j → t₁ ≡ T s (suc j) → two ⊗ s ⊗ t₁ ⊖ t₀ ≡ T s (suc (suc j))
  unfolding T
  T-turn e₀ e₁ = rw (e₀, e₁)

  -- and its derivative
  pub T'-turn : {t₁ d₀ d₁ : Float} → t₁ ≡ T s (suc j) → d₀ ≡ T' s j → d₁ ≡ T' s (suc j) → two ⊗ t₁ ⊕ two ⊗ s ⊗ d₁ ⊖ d₀ ≡ T' s (suc (suc j))
  unfolding T'
  T'-turn e₁ e₂ e₃ = rw (e₁, e₂, e₃)

-- the derivatives of fewer than two coefficients
pub slopes_few : (kernel : List ℕ) (q n : ℕ) (s : Float) → n < 2 → none ≡ slopes kernel q n s
unfolding slope_at
slopes_few kernel q zero s h = refl
slopes_few kernel q (suc zero) s h = refl
slopes_few kernel q (suc (suc n)) s h = absurd (omega arith)

-- of the three series from byte q on
module _ (kernel : List ℕ) (q n : ℕ) (s : Float) where
  -- the first two terms of the values
  pub values_two : {c₀ c₁ m r : Triple} → c₀ ≡ each (λ f. f 0) kernel q n → c₁ ≡ each (λ f. f 1) kernel q n → m ≡ scaled c₀ one → r ≡ added m c₁ s
      → r ≡ each (λ f. series_at f 2 s) kernel q n
  unfolding series_at
  values_two e₀ e₁ em er = rw (er, em, e₀, e₁)

  -- the first term of the derivatives
  pub slopes_two : {c₁ r : Triple} → c₁ ≡ each (λ f. f 1) kernel q n → r ≡ scaled c₁ one → r ≡ each (λ f. slope_at f 2 s) kernel q n
  unfolding slope_at
  slopes_two e₁ er = rw (er, e₁)

  -- a term more of the values
  pub values_turn : (j : ℕ) {k : ℕ} {t : Float} {sum c next : Triple} → k ≡ suc (suc j) → t ≡ T s (suc (suc j)) → c ≡ each (λ f. f k) kernel q n
      → sum ≡ each (λ f. series_at f (suc (suc j)) s) kernel q n → next ≡ added sum c t → next ≡ each (λ f. series_at f (suc (suc (suc j))) s) kernel q n
  unfolding series_at
  values_turn j ek et ec es en = rw (en, ec, es, et, ek)

  -- a term more of the derivatives
  pub slopes_turn : (j : ℕ) {k : ℕ} {t : Float} {sum c next : Triple} → k ≡ suc (suc j) → t ≡ T' s (suc (suc j)) → c ≡ each (λ f. f k) kernel q n
      → sum ≡ each (λ f. slope_at f (suc (suc j)) s) kernel q n → next ≡ added sum c t → next ≡ each (λ f. slope_at f (suc (suc (suc j))) s) kernel q n
  unfolding slope_at
  slopes_turn j ek et ec es en = rw (en, ec, es, et, ek)

  -- ---- the sums of a loop

  -- after the first two terms
  pub begun_summed : {c₀ c₁ : Triple} {z : Run} → c₀ ≡ each (λ f. f 0) kernel q n → c₁ ≡ each (λ f. f 1) kernel q n → z ≡ begun c₀ c₁ s → Summed kernel q n s 0 z
  unfolding T T'
  begun_summed e₀ e₁ ez = rw ez (record { before = refl; last = refl; rate_before = refl; rate_last = refl; value = values_two e₀ e₁ refl refl; slope = slopes_two e₁ refl })

  -- after one term more
  pub turned_summed : (j : ℕ) {k : ℕ} {c : Triple} {z r : Run} → k ≡ suc (suc j) → c ≡ each (λ f. f k) kernel q n → Summed kernel q n s j z → r ≡ turned z c (two ⊗ s)
      → Summed kernel q n s (suc j) r
  turned_summed j ek ec h er =
      let t = T-turn s j h.before h.last in
      let d = T'-turn s j h.last h.rate_before h.rate_last in
      rw er (record { before = h.last; last = t; rate_before = h.rate_last; rate_last = d; value = values_turn j ek t ec h.value refl; slope = slopes_turn j ek d ec h.slope refl })

  -- all terms
  pub summed_all : (j : ℕ) {z : Run} → n ≡ suc (suc j) → Summed kernel q n s j z → (z.value ≡ values kernel q n s) × (z.slope ≡ slopes kernel q n s)
  summed_all j e h =
      (h.value ∙ ap (λ (m : ℕ). each (λ f. series_at f m s) kernel q n) (sym e), h.slope ∙ ap (λ (m : ℕ). each (λ f. slope_at f m s) kernel q n) (sym e))

-- of six series
module _ (kernel : List ℕ) (p q n : ℕ) (s : Float) where
  pub six_summed : (j : ℕ) {k : ℕ} {z r : SixRun} → k ≡ suc (suc j) → SixSummed kernel p q n s j z → r ≡ six_turned z (each (λ f. f k) kernel p n) (each (λ f. f k) kernel q n) (two ⊗ s)
      → SixSummed kernel p q n s (suc j) r
  six_summed j ek h er =
      let t = T-turn s j h.before h.last in
      rw er (record { before = h.last; last = t; first = values_turn kernel p n s j ek t refl h.first refl; second = values_turn kernel q n s j ek t refl h.second refl })

  pub six_all : (j : ℕ) {z : SixRun} → n ≡ suc (suc j) → SixSummed kernel p q n s j z → (z.first ≡ values kernel p n s) × (z.second ≡ values kernel q n s)
  six_all j e h =
      (h.first ∙ ap (λ (m : ℕ). each (λ f. series_at f m s) kernel p n) (sym e), h.second ∙ ap (λ (m : ℕ). each (λ f. series_at f m s) kernel q n) (sym e))
