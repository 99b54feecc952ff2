-- An opening's outcome is told whole in the numbers of RULES, "Refusals": two that are told alike are one. Assumes nothing.
use Rattle.std.proofs.Common.{ℕ, Result, Ok, Err}
use mathlib.Core.Path.{◌≡◌, refl, ap, ◌∙◌}
use mathlib.Core.Bool.{Bool, cond}
use lib.Dec.{eqb}
use Rattle.refusal.specs.Told.{refused_by}
use Rattle.refusal.proofs.Told.{told_back, refusal_of_lem, refusal_of, not_0}
use Rattle.opening.specs.Told.{Told, found_told}
use Rattle.refusal.specs.declared.Refusal.{Refusal}

abbrev found_of_lem : Told → Result ℕ Refusal
found_of_lem t = cond (eqb t.numbered.number 0) (Ok t.segments) (Err (refusal_of_lem t.numbered))

found_of : (o : Result ℕ Refusal) → found_of_lem (found_told o) ≡ o
found_of (Ok n) = refl
found_of (Err r) = ap (λ (b : Bool). cond b (Ok 0) (Err (refusal_of_lem (refused_by r)))) (not_0 r) ∙ ap Err (refusal_of r)

pub one_outcome : (o o' : Result ℕ Refusal) → found_told o ≡ found_told o' → o ≡ o'
one_outcome = told_back found_told found_of_lem found_of
