-- An order of tests, and the one refusal that it gives: that of the first test that holds.
use Rattle.std.specs.Prelude.{ℕ, zero, suc, ◌≡◌, Bool, true, false, cond, not, ◌&&◌, List, [], ◌∷◌, eqb}
use Rattle.refusal.specs.declared.Refusal.{Refusal}
use Rattle.refusal.specs.declared.Refusal.TheVariants.{KernelLength}
use Rattle.refusal.specs.Numbers.{number_of}

-- A test, with the refusal that it gives where it holds.
pub record Case : Type 0 where
  pub holds : Bool
  pub gives : Refusal

abbrev pub case : Bool → Refusal → Case
case b r = record { holds = b; gives = r }

-- The first case that holds gives its refusal; where none does there is the answer.
abbrev pub first_of : {A : Type 0} → List Case → (Refusal → A) → A → A
first_of [] refused answer = answer
first_of (c ∷ cs) refused answer = cond c.holds (refused c.gives) (first_of cs refused answer)

-- Case i holds, and no earlier one does.
abbrev pub First : List Case → ℕ → Type 0
First [] i = ⊥
First (c ∷ cs) zero = c.holds ≡ true
First (c ∷ cs) (suc i) = (c.holds ≡ false) × First cs i

-- No case holds.
abbrev pub None : List Case → Type 0
None [] = Unit {0}
None (c ∷ cs) = (c.holds ≡ false) × None cs

-- The refusal of case i.
abbrev pub given : List Case → ℕ → Refusal
given [] i = KernelLength
given (c ∷ cs) zero = c.gives
given (c ∷ cs) (suc i) = given cs i

-- No case of the list has this number, and no two cases have one number.
abbrev pub without : ℕ → List Case → Bool
without n [] = true
without n (c ∷ cs) = not (eqb n (number_of c.gives)) && without n cs

abbrev pub apart : List Case → Bool
apart [] = true
apart (c ∷ cs) = without (number_of c.gives) cs && apart cs
