-- A choice in the numbers of RULES, "Refusals". Assumes nothing: these are definitions.
use Rattle.std.specs.Prelude.{ℕ, List, [], ◌∷◌, Option, Some, None}

-- The segment that was chosen, or none.
abbrev pub choice_told : Option ℕ → List ℕ
choice_told (Some i) = i ∷ []
choice_told None = []
