-- `ask_text::rows` meets its contract. Assumes nothing.
use mathlib.Core.Path.{◌≡◌}
use mathlib.Core.List.{List, [], ◌∷◌}
use lib.Ieee.{Float}
use Rattle.ask_text.specs.Records.{rows_of}
use Rattle.ask_text.proofs.rows.Goals as goal

-- a matrix by its numbers
nine : {a b d e f g h i j a' b' d' e' f' g' h' i' j' : Float} → a ≡ a' → b ≡ b' → d ≡ d' → e ≡ e' → f ≡ f' → g ≡ g' → h ≡ h' → i ≡ i' → j ≡ j'
    → ◌≡◌ {A = List (List Float)} ((a ∷ b ∷ d ∷ []) ∷ (e ∷ f ∷ g ∷ []) ∷ (h ∷ i ∷ j ∷ []) ∷ []) ((a' ∷ b' ∷ d' ∷ []) ∷ (e' ∷ f' ∷ g' ∷ []) ∷ (h' ∷ i' ∷ j' ∷ []) ∷ [])
nine p q r s t u v w x = cc

pub returns : goal.returns
unfolding rows_of
returns c =
    nine c.double_at.ensures c.double_at-2.ensures c.double_at-3.ensures c.double_at-4.ensures c.double_at-5.ensures c.double_at-6.ensures c.double_at-7.ensures c.double_at-8.ensures c.double_at-9.ensures
