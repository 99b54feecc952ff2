-- Where the epochs rise, the search finds the greatest one at or before et.
-- Assumes nothing.
use Prim.Native.Nat.{ℕ, zero, suc, ◌+◌, ◌-◌, ◌/◌, ◌≤◌, ◌<◌}
use mathlib.Core.Bool.{Bool, true, false}
use mathlib.Core.List.{List}
use mathlib.Core.Logic.{⊎_elim}
use mathlib.Core.Path.{◌≡◌, refl, sym, ◌∙◌}
use native.Mathlib.Nat.{eq-or-lt_of_le}
use native.Mathlib.Omega.{arith}
use lib.Dec.{ltb}
use lib.Ieee.{Float, lt, le}
use borrow.Author.Tests.{ltb-true, ltb-false}
use Rattle.bits.specs.Bytes.{every}
use Rattle.bits.proofs.Order.{lt_le_trans}
use Rattle.interp.specs.Window.{bisect, left_of, left_at}
use Rattle.interp.proofs.Search.{bisect_end, bisect_up, bisect_down}

-- what holds at a place holds at those before it
abbrev pub Falls : (ℕ → Bool) → ℕ → Type 0
Falls p n = (j k : ℕ) → j ≤ k → k < n → p k ≡ true → p j ≡ true

-- r parts the first n places: p holds at each below r, and at none from r on
abbrev pub Parts : (ℕ → Bool) → ℕ → ℕ → Type 0
Parts p n r = (r ≤ n) × ((k : ℕ) → k < r → p k ≡ true) × ((k : ℕ) → r ≤ k → k < n → p k ≡ false)

module _ (p : ℕ → Bool) (n : ℕ) (falls : Falls p n) where
  -- a place at which p does not hold: it holds at none after it
  not_after : (m : ℕ) → p m ≡ false → (k : ℕ) → m ≤ k → k < n → p k ≡ false
  not_after m e k l h = go (p k) refl
    where
      go : (b : Bool) → p k ≡ b → p k ≡ false
      go true q = absurd (let z : true ≡ false = sym (falls m k l h q) ∙ e in let one : ◌≡◌ {A = ℕ} 0 1 = cc in omega arith)
      go false q = q

  parts : (d lo hi : ℕ) → lo ≤ hi → hi ≤ n → hi ≤ lo + d → ((k : ℕ) → k < lo → p k ≡ true) → ((k : ℕ) → hi ≤ k → k < n → p k ≡ false) → Parts p n (bisect p d lo hi)
  parts zero lo hi a b c below above = rw (bisect_end p 0 lo hi (omega arith)) (omega arith, below, λ k l h. above k (omega arith) h)
  parts (suc d) lo hi a b c below above = go (parts d) (ltb lo hi) refl (p ((lo + hi) / 2)) refl
    where
      go : ((lo hi : ℕ) → lo ≤ hi → hi ≤ n → hi ≤ lo + d → ((k : ℕ) → k < lo → p k ≡ true) → ((k : ℕ) → hi ≤ k → k < n → p k ≡ false) → Parts p n (bisect p d lo hi))
          → (x : Bool) → ltb lo hi ≡ x → (y : Bool) → p ((lo + hi) / 2) ≡ y → Parts p n (bisect p (suc d) lo hi)
      go rest false e y f =
          let met : hi ≤ lo = ltb-false lo hi e in
          rw (bisect_end p (suc d) lo hi met) (omega arith, below, λ k l h. above k (omega arith) h)
      go rest true e true f =
          let open-still : lo < hi = ltb-true lo hi e in
          rw (bisect_up p d lo hi open-still f)
          (rest ((lo + hi) / 2 + 1) hi (omega arith) b (omega arith) (λ k l. falls k ((lo + hi) / 2) (omega arith) (omega arith) f) above)
      go rest true e false f =
          let open-still : lo < hi = ltb-true lo hi e in
          rw (bisect_down p d lo hi open-still f)
          (rest lo ((lo + hi) / 2) (omega arith) (omega arith) (omega arith) below (not_after ((lo + hi) / 2) f))

  pub search_parts : Parts p n (bisect p n 0 n)
  search_parts = parts n 0 n (omega arith) (omega arith) (omega arith) (λ k l. absurd (omega arith)) (λ k l h. absurd (omega arith))

  -- where p holds at some place, it holds at the one found and at none after it
  pub greatest : (i : ℕ) → i < n → p i ≡ true → (left_of p n < n) × (p (left_of p n) ≡ true) × ((k : ℕ) → left_of p n < k → k < n → p k ≡ false)
  unfolding left_of
  greatest i h e =
      let s = search_parts in
      let some : bisect p n 0 n - 1 < bisect p n 0 n = go (bisect p n 0 n) s.2 in
      let fits = s.0 in
      (omega arith, s.1 (bisect p n 0 n - 1) some, λ k l g. s.2 k (omega arith) g)
    where
      go : (r : ℕ) → ((k : ℕ) → r ≤ k → k < n → p k ≡ false) → r - 1 < r
      go zero above = absurd (let z : true ≡ false = sym e ∙ above i (omega arith) h in let one : ◌≡◌ {A = ℕ} 0 1 = cc in omega arith)
      go (suc r) above = omega arith

-- where p holds at no place, the place found is 0
pub none_left : (p : ℕ → Bool) (n : ℕ) → ((k : ℕ) → k < n → p k ≡ false) → left_of p n ≡ 0
unfolding left_of
none_left p n none = go (bisect p n 0 n) (search_parts p n (λ j k l h e. absurd (clash k h e)))
  where
    clash : (k : ℕ) → k < n → p k ≡ true → ⊥
    clash k h e = let z : true ≡ false = sym e ∙ none k h in let one : ◌≡◌ {A = ℕ} 0 1 = cc in omega arith

    go : (r : ℕ) → Parts p n r → r - 1 ≡ 0
    go zero s = omega arith
    go (suc r) s = absurd (clash 0 (let l = s.0 in omega arith) (s.1 0 (omega arith)))

-- The first n of the numbers f rise strictly: none is a NaN where there are two.
abbrev pub Rise : (ℕ → Float) → ℕ → Type 0
Rise f n = (j k : ℕ) → j < k → k < n → lt (f j) (f k) ≡ true

rise_falls : (f : ℕ → Float) (n : ℕ) (et : Float) → Rise f n → Falls (λ k. le (f k) et) n
rise_falls f n et rise j k l h e = ⊎_elim (λ q. rw q e) (λ q. lt_le_trans (f j) (f k) et (rise j k q h) e) (eq-or-lt_of_le l)

module _ (s : List ℕ) (p n : ℕ) (et : Float) where
  -- Where the n epochs at byte p rise strictly and one is at or below et, the place found is that of the greatest such epoch.
  pub left_greatest : Rise (every 8 s p) n → (i : ℕ) → i < n → le (every 8 s p i) et ≡ true
      → (left_at s p n et < n)
      × (le (every 8 s p (left_at s p n et)) et ≡ true)
      × ((k : ℕ) → left_at s p n et < k → k < n → le (every 8 s p k) et ≡ false)
  unfolding left_at
  left_greatest rise = greatest (λ k. le (every 8 s p k) et) n (rise_falls (every 8 s p) n et rise)

  -- Where none is, it is 0.
  pub left_none : ((k : ℕ) → k < n → le (every 8 s p k) et ≡ false) → left_at s p n et ≡ 0
  unfolding left_at
  left_none none = none_left (λ k. le (every 8 s p k) et) n none
