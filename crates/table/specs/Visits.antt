-- The segments that a scan visits. Assumes nothing: these are definitions.
use Rattle.std.specs.Prelude.{ℕ, ◌<◌, List, [], ◌∷◌, Option}
use Rattle.std.specs.Iterator.{AlwaysYields}

-- Each of the numbers is below n.
abbrev pub AllBelow : ℕ → List ℕ → Type 0
AllBelow n [] = Unit {0}
AllBelow n (x ∷ xs) = (x < n) × AllBelow n xs

-- The iterator s gives the numbers xs one after another, and then none, and they are below n: segments of a table of n. `steps` says what a call of
-- its `next` may give.
pub record Visits {S : Type 0} (steps : S → Option ℕ → S → Type 0) (s : S) (n : ℕ) (xs : List ℕ) : Type 0 where
  pub gives : AlwaysYields steps (λ x. x) s xs
  pub below : AllBelow n xs
