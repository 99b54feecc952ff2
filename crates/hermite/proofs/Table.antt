-- The Hermite table and the Newton form, turn by turn.
-- Assumes nothing.
use Prim.Native.Nat.{ℕ, zero, suc, ◌+◌, ◌-◌, ◌*◌, ◌/◌, ◌%◌, ◌≤◌, ◌<◌}
use mathlib.Core.List.{List}
use mathlib.Core.Path.{◌≡◌, refl, subst, ◌∙◌}
use native.Mathlib.Numerals.{add-one}
use native.Mathlib.Omega.{arith}
use lib.Ieee.{Float, nan}
use lib.ListN.{length, set, length-set}
use lib.Seq.{get_or-set_other}
use borrow.Author.Tests.{eq-eqb, ne_eqb}
use Rattle.bits.specs.F64.{◌⊖◌, at, +0, one}
use Rattle.bits.proofs.Fill.{Filled, fill_none, fill_more}
use Rattle.hermite.specs.declared.Newton.{Newton}
use Rattle.hermite.specs.Hermite.{doubled, quotient, difference, product, product', value_to, slope_to, table_of}
use Rattle.hermite.specs.Steps.{newton_at, advanced}

module _ (z g h : ℕ → Float) where
  -- the first column, by the parity of the place
  pub first_even : (i : ℕ) → i % 2 ≡ 0 → h (i / 2) ≡ difference z g h 1 i
  unfolding difference
  first_even i e = rw (eq-eqb (i % 2) 0 e)

  pub first_odd : (i : ℕ) → (i % 2 ≡ 0 → ⊥) → quotient (doubled g) z 1 i ≡ difference z g h 1 i
  unfolding difference
  first_odd i e = rw (ne_eqb (i % 2) 0 e)

-- The list col holds the column of order k of m doubled nodes. It is a record, so that antt finds z, g, h and k from a proof of it.
pub record Column (z g h : ℕ → Float) (m k : ℕ) (col : List Float) : Type 0 where
  pub holds : (i : ℕ) → i + k < m → at col i ≡ difference z g h k i

-- The Newton form up to order k is summed, and the list col holds the column of order k.
pub record After (z g h : ℕ → Float) (x : Float) (m k : ℕ) (st : Newton) (col : List Float) : Type 0 where
  pub form : st ≡ newton_at (λ j. difference z g h j 0) z x k
  pub column : Column z g h m k col

column_next : {z g h : ℕ → Float} {m k : ℕ} {col col' : List Float} → Column z g h m (suc k) col
    → ((i : ℕ) → i + suc (suc k) < m → at col' i ≡ quotient (at col) z (suc (suc k)) i) → Column z g h m (suc (suc k)) col'
unfolding difference
column_next {z} {g} {h} {m} {k} {col} {col'} c q = record { holds = go }
  where
    go : (i : ℕ) → i + suc (suc k) < m → at col' i ≡ difference z g h (suc (suc k)) i
    go i l = rw (q i l, c.holds (i + 1) (omega arith), c.holds i (omega arith))

newton_next : (c z : ℕ → Float) (x : Float) (k : ℕ) {s s' : Newton} {a : Float} → s ≡ newton_at c z x k → a ≡ c (suc k) → s' ≡ advanced s a (x ⊖ z k) → s' ≡ newton_at c z x (suc k)
unfolding value_to slope_to product product'
newton_next c z x k e ea e' = rw (e', e, ea)

-- the form of order 0
no_term : (z g h : ℕ → Float) (x : Float) {v : Float} → v ≡ g 0 → record { val = v; der = +0; prod = one; dprod = +0 } ≡ newton_at (λ j. difference z g h j 0) z x 0
unfolding difference value_to slope_to product product'
no_term z g h x e = rw e

-- the first column, and the form with its first number
pub at_start : {z g h : ℕ → Float} {x : Float} {m : ℕ} {st : Newton} {col : List Float} {v : Float} → 1 < m → v ≡ g 0
    → ((i : ℕ) → i + 1 < m → at col i ≡ difference z g h 1 i)
    → st ≡ advanced (record { val = v; der = +0; prod = one; dprod = +0 }) (at col 0) (x ⊖ z 0) → After z g h x m 1 st col
at_start {z} {g} {h} {x} {m} {st} {col} {v} l ev q es =
    record { form = newton_next (λ j. difference z g h j 0) z x 0 (no_term z g h x ev) (q 0 l) es; column = record { holds = q } }

-- the next column, of order n, and the form with its first number
pub after_turn : {z g h : ℕ → Float} {x : Float} {m n : ℕ} (k : ℕ) {st st' : Newton} {col col' : List Float} → n ≡ k + 1 → 1 ≤ k → n < m → After z g h x m k st col
    → ((i : ℕ) → i + n < m → at col' i ≡ quotient (at col) z n i) → st' ≡ advanced st (at col' 0) (x ⊖ z k) → After z g h x m n st' col'
after_turn zero e p l a ec es = absurd (omega arith)
after_turn {z} {g} {h} {x} {m} {n} (suc j) {st} {st'} {col} {col'} e p l a ec es =
    let two : n ≡ suc (suc j) = omega arith in
    rw two (go (rw two at ec))
  where
    go : ((i : ℕ) → i + suc (suc j) < m → at col' i ≡ quotient (at col) z (suc (suc j)) i) → After z g h x m (suc (suc j)) st' col'
    go ec =
        let column : Column z g h m (suc (suc j)) col' = column_next a.column ec in
        record { form = newton_next (λ j. difference z g h j 0) z x (suc j) a.form (column.holds 0 (omega arith)) es; column = column }

-- the last column, of one number
pub at_end : {z g h : ℕ → Float} {x : Float} {m k : ℕ} {st : Newton} {col : List Float} (n : ℕ) → k ≡ n + n - 1 → After z g h x m k st col
    → record { value = st.val; slope = st.der } ≡ table_of z g h n x
unfolding table_of
at_end n e a = rw (a.form, e)

-- a number stored twice in a row: one turn of filling an array with doubled numbers
pub fill_twice : (f : ℕ → Float) (i : ℕ) {n : ℕ} {xs : List Float} {v : Float} → Filled (doubled f) (2 * i) xs → length xs ≡ n → 2 * i + 1 < n → v ≡ f i
    → Filled (doubled f) (2 * (i + 1)) (set (set xs (2 * i) v) (2 * i + 1) v)
fill_twice f i {n} {xs} {v} below e l ev =
    let here : 2 * i / 2 ≡ i = omega arith in
    let there : (2 * i + 1) / 2 ≡ i = omega arith in
    let both : 2 * i + 1 + 1 ≡ 2 * (i + 1) = omega arith in
    let once : Filled (doubled f) (2 * i + 1) (set xs (2 * i) v) = fill_more below e (omega arith) (rw here ev) in
    subst (λ (k : ℕ). Filled (doubled f) k (set (set xs (2 * i) v) (2 * i + 1) v)) both
    (fill_more once (simp length-set e) l (rw there ev))

-- The pass for order k over the column old, from the low end up: the places below i hold the new column, those from i on still the old one.
pub record Overwritten (z : ℕ → Float) (k : ℕ) (old : List Float) (i : ℕ) (col : List Float) : Type 0 where
  pub below : Filled (quotient (at old) z k) i col
  pub above : (j : ℕ) → i ≤ j → at col j ≡ at old j

pub overwrite_none : {z : ℕ → Float} {k : ℕ} {old : List Float} → Overwritten z k old 0 old
overwrite_none = record { below = fill_none; above = λ j l. refl }

-- one turn: the difference at place i is made of two numbers that are not overwritten yet
pub overwrite_more : {z : ℕ → Float} {k : ℕ} {old : List Float} {i n : ℕ} {col : List Float} {v : Float} → Overwritten z k old i col → length col ≡ n → i < n
    → v ≡ quotient (at col) z k i → Overwritten z k old (i + 1) (set col i v)
overwrite_more {z} {k} {old} {i} {n} {col} {v} o e l ev =
    let kept : quotient (at col) z k i ≡ quotient (at old) z k i = rw (o.above (i + 1) (omega arith), o.above i (omega arith)) in
    record {
      below = fill_more o.below e l (ev ∙ kept);
      above = λ j h. get_or-set_other col i j v nan (λ s. omega arith) ∙ o.above j (omega arith);
    }
