-- An orientation is told whole in the numbers of RULES, "Refusals": two that are told alike are one. Assumes nothing.
use mathlib.Core.Path.{◌≡◌, refl, ap, ◌∙◌}
use mathlib.Core.Bool.{Bool, cond}
use lib.Dec.{eqb}
use Rattle.refusal.specs.Told.{Numbered, refused_by}
use Rattle.refusal.proofs.Told.{told_back, refusal_of_lem, refusal_of, not_0}
use Rattle.std.specs.Prelude.{Result, Ok, Err}
use Rattle.refusal.specs.declared.Refusal.{Refusal}
use Rattle.pck.specs.declared.Oriented.{Oriented}
use Rattle.pck.specs.Orienting.{oriented_of}
use Rattle.pck.specs.Told.{Told, outcome_told, oriented_told}

abbrev outcome_of_lem : Numbered → Result (Unit {0}) Refusal
outcome_of_lem p = cond (eqb p.number 0) (Ok tt) (Err (refusal_of_lem p))

outcome_of : (o : Result (Unit {0}) Refusal) → outcome_of_lem (outcome_told o) ≡ o
outcome_of (Ok _) = refl
outcome_of (Err r) = ap (λ (b : Bool). cond b (Ok tt) (Err (refusal_of_lem (refused_by r)))) (not_0 r) ∙ ap Err (refusal_of r)

pub one_orientation : (o o' : Oriented) → oriented_told o ≡ oriented_told o' → o ≡ o'
one_orientation = told_back oriented_told (λ (t : Told). oriented_of (outcome_of_lem t.numbered) t.frame t.six t.stretched) (λ o. ap (λ (x : Result (Unit {0}) Refusal). oriented_of x o.frame o.angles o.stretched) (outcome_of o.outcome))
