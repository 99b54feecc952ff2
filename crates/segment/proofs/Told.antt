-- An evaluation is told whole in the numbers of RULES, "Refusals": two that are told alike are one. Assumes nothing.
use mathlib.Core.Path.{◌≡◌, refl, ap, ◌∙◌}
use mathlib.Core.Bool.{Bool, false, cond}
use lib.Dec.{eqb}
use Rattle.frame.specs.State.{zero_state}
use Rattle.refusal.specs.Told.{refused_by}
use Rattle.refusal.proofs.Told.{told_back, refusal_of_lem, refusal_of, not_0}
use Rattle.std.proofs.Common.{Result, Ok, Err}
use Rattle.refusal.specs.declared.Refusal.{Refusal}
use Rattle.segment.specs.declared.Valued.{Valued}
use Rattle.segment.specs.Told.{Told, evaluated_told}

abbrev evaluated_of_lem : Told → Result Valued Refusal
evaluated_of_lem t = cond (eqb t.numbered.number 0) (Ok (record { state = t.six; stretched = t.stretched })) (Err (refusal_of_lem t.numbered))

evaluated_of : (e : Result Valued Refusal) → evaluated_of_lem (evaluated_told e) ≡ e
evaluated_of (Ok s) = refl
evaluated_of (Err r) = ap (λ (b : Bool). cond b (Ok (record { state = zero_state; stretched = false })) (Err (refusal_of_lem (refused_by r)))) (not_0 r) ∙ ap Err (refusal_of r)

pub one_evaluation : (e e' : Result Valued Refusal) → evaluated_told e ≡ evaluated_told e' → e ≡ e'
one_evaluation = told_back evaluated_told evaluated_of_lem evaluated_of
