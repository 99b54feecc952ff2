-- A walk as an iterator: what is left of it after a call of `next`, which numbers it visits, and what a scan of them finds. Assumes nothing.
use Rattle.std.proofs.Common.{◌≡◌, ℕ, zero, suc, ◌+◌, ◌-◌, ◌<◌, ◌≤◌, List, [], ◌∷◌, Bool, true, false, cond, ◌||◌, eqb, length, Some, refl, sym, ap, subst, ◌∙◌, get_or, arith, add-one}
use native.Mathlib.Decide.{dec_lt}
use Rattle.std.specs.Bool.{⊤}
use Rattle.std.specs.Iterator.{MakesProgress, item_count}
use Rattle.std.specs.Iterator.{YieldsFirst}
use Rattle.std.specs.List.{find, list_any}
use Rattle.segment.specs.declared.Segment.{Segment}
use Rattle.table.specs.Segments.{seg}
use Rattle.table.specs.Marks.{rivals}
use Rattle.table.specs.Visits.{AllBelow, Visits}
use Rattle.table.proofs.Visits.{visits_left}
use Rattle.index.specs.Visiting.{down, up, chosen_of}
use Rattle.index.specs.Marking.{others_of}
use Rattle.index.proofs.Visits.{down_none, down_out, down_at, up_none, up_out, up_at}

-- ---- a call of `next`
module _ (links : List ℕ) where
  pub down_left : (k e i : ℕ) → e ≡ i + 1 → i < k → down links k e ≡ i ∷ down links i (get_or links i 0)
  down_left k e i q l = down_at links k i e l (q ∙ add-one i)

  pub down_over : (k e : ℕ) → (0 < e → k < e) → down links k e ≡ []
  down_over k e w =
      elim (dec_lt 0 e) [
        | yes p ↦ down_out links k e (w p)
        | no z ↦ down_none links k e (omega arith)
      ]

  pub up_left : (a n e j : ℕ) → e ≡ j + 1 → a ≤ j → j < n → up links a (n - a) e ≡ j ∷ up links (j + 1) (n - (j + 1)) (get_or links j 0)
  up_left a n e j q l h =
      up_at links a (n - a) j e l (omega arith) (q ∙ add-one j)
      ∙ ap (λ (r : ℕ). j ∷ up links (suc j) r (get_or links j 0)) (omega arith)
      ∙ ap (λ (k : ℕ). j ∷ up links k (n - (j + 1)) (get_or links j 0)) (sym (add-one j))

  pub up_over : (a n e : ℕ) → a ≤ n → (a < e → n < e) → up links a (n - a) e ≡ []
  up_over a n e l w =
      elim (dec_lt a e) [
        | yes p ↦ let o = w p in up_out links a (n - a) e (omega arith)
        | no z ↦ up_none links a (n - a) e (omega arith)
      ]

-- what is left gets shorter
pub progress : (xs : List ℕ) (x : ℕ) (ys : List ℕ) → xs ≡ x ∷ ys → MakesProgress (λ _. ⊤) (item_count (λ (s : List ℕ). s)) xs (Some x) ys
progress xs x ys e = record { on = λ f. (tt, tt, omega (arith, ap length e)); keeps = tt; rests = λ f. tt }

-- ---- what is visited is of the table, whatever the index holds
below_if : (m x : ℕ) (rest : List ℕ) (b : Bool) → x < m → AllBelow m rest → AllBelow m (cond b (x ∷ rest) rest)
below_if m x rest true l h = (l, h)
below_if m x rest false l h = h

module _ (links : List ℕ) (m : ℕ) where
  below_down : (k e : ℕ) → k ≤ m → AllBelow m (down links k e)
  unfolding down
  below_down zero e l = tt
  below_down (suc k) e l = below_if m k _ (eqb e (suc k)) (omega arith) (below_down k _ (omega arith))

  below_up : (i r e : ℕ) → i + r ≤ m → AllBelow m (up links i r e)
  unfolding up
  below_up i zero e l = tt
  below_up i (suc r) e l = below_if m i _ (eqb e (suc i)) (omega arith) (below_up (suc i) r _ (omega arith))

  -- so visit `index::down` and `index::up`
  pub visits_walk_down : {s : List ℕ} (n e : ℕ) → s ≡ down links n e → n ≤ m → Visits (YieldsFirst (λ (t : List ℕ). t)) s m (down links n e)
  visits_walk_down n e q l = subst (λ (t : List ℕ). Visits (YieldsFirst (λ (u : List ℕ). u)) t m (down links n e)) (sym q) (visits_left m _ (below_down n e l))

  pub visits_walk_up : {s : List ℕ} (n e : ℕ) → s ≡ up links 0 n e → n ≤ m → Visits (YieldsFirst (λ (t : List ℕ). t)) s m (up links 0 n e)
  visits_walk_up n e q l = subst (λ (t : List ℕ). Visits (YieldsFirst (λ (u : List ℕ). u)) t m (up links 0 n e)) (sym q) (visits_left m _ (below_up 0 n e (omega arith)))

-- ---- what the scans of `table` find is what those here do
module _ (segs : List Segment) where
  pub find_chosen : (test : Segment → Bool) (xs : List ℕ) → find (λ i. test (seg segs i)) xs ≡ chosen_of test segs xs
  unfolding chosen_of
  find_chosen test [] = refl
  find_chosen test (i ∷ rest) = ap (cond (test (seg segs i)) (Some i)) (find_chosen test rest)

  pub any_others : (a : Segment) (i : ℕ) (xs : List ℕ) → list_any (λ k. rivals a i (seg segs k) k) xs ≡ others_of segs a i xs
  unfolding others_of
  any_others a i [] = refl
  any_others a i (k ∷ rest) = ap (λ b. rivals a i (seg segs k) k || b) (any_others a i rest)
