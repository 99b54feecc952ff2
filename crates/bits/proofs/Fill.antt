-- One turn of a loop that fills an array of floats by a rule F: what holds of the first i places, and of the number stored at i, holds of the first i + 1.
-- `Filled` is a record and no function, so that antt finds F, i and xs from a proof of it.
-- Assumes nothing.
use Prim.Native.Nat.{ℕ, ◌+◌, ◌≤◌, ◌<◌}
use mathlib.Core.List.{List}
use mathlib.Core.Logic.{⊎_elim}
use mathlib.Core.Path.{◌≡◌, ◌∙◌}
use native.Mathlib.Nat.{eq-or-lt_of_le}
use native.Mathlib.Omega.{arith}
use lib.Ieee.{Float, nan}
use lib.ListN.{length, set}
use lib.Seq.{get_or-set_same, get_or-set_other}
use Rattle.bits.specs.F64.{at}

-- the first n places hold what the rule says
pub record Filled (F : ℕ → Float) (n : ℕ) (xs : List Float) : Type 0 where
  pub holds : (j : ℕ) → j < n → at xs j ≡ F j

pub fill_none : {F : ℕ → Float} {xs : List Float} → Filled F 0 xs
fill_none = record { holds = λ j h. absurd (omega arith) }

pub fill_more : {F : ℕ → Float} {i n : ℕ} {xs : List Float} {v : Float} → Filled F i xs → length xs ≡ n → i < n → v ≡ F i → Filled F (i + 1) (set xs i v)
fill_more {F} {i} {n} {xs} {v} below e h ev = record { holds = go }
  where
    go : (j : ℕ) → j < i + 1 → at (set xs i v) j ≡ F j
    go j l =
        let at_most : j ≤ i = omega arith in
        ⊎_elim (λ q. rw q (get_or-set_same xs i v nan (omega arith) ∙ ev)) (λ q. get_or-set_other xs i j v nan (λ s. omega arith) ∙ below.holds j q)
        (eq-or-lt_of_le at_most)
