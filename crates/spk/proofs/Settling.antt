-- Laws of `settled` and `negated_of`, one for each way through the code. Assumes nothing.
use mathlib.Core.Path.{◌≡◌, ap, ◌∙◌}
use mathlib.Core.Bool.{Bool, cond}
use Rattle.frame.specs.declared.Given.{Given}
use Rattle.frame.specs.State.{finite_state}
use Rattle.frame.specs.Given.{negated_given}
use Rattle.refusal.specs.declared.Refusal.{Refusal}
use Rattle.refusal.specs.declared.Refusal.TheVariants.{NotFinite}
use Rattle.std.proofs.Common.{Result, Ok, Err}
use Rattle.spk.specs.declared.Way.{Way}
use Rattle.spk.specs.declared.Asked.{Asked}
use Rattle.spk.specs.Answers.{answer_of, refused_answer, settled, negated_of}

-- two answers with their memories are equal by their fields
pub asked_eq : (a b : Asked) → a.answer ≡ b.answer → a.memory ≡ b.memory → a ≡ b
asked_eq a b p q = λ i. record { answer = p i; memory = q i }

module _ (way : Way) (e : Result Given Refusal) where
  -- it is a refusal
  pub settled_refused : (r : Refusal) → e ≡ Err r → settled way e ≡ refused_answer r
  unfolding settled
  settled_refused r h = ap (settled way) h

  -- it is a state, finite or not
  pub settled_state : (g : Given) (b : Bool) → e ≡ Ok g → finite_state g.state ≡ b → settled way e ≡ cond b (answer_of way g) (refused_answer NotFinite)
  unfolding settled
  settled_state g b h f = ap (settled way) h ∙ ap (λ (x : Bool). cond x (answer_of way g) (refused_answer NotFinite)) f

pub negated_refused : (e : Result Given Refusal) (r : Refusal) → e ≡ Err r → negated_of e ≡ Err r
unfolding negated_of
negated_refused e r h = ap negated_of h

pub negated_state_lem : (e : Result Given Refusal) (g : Given) → e ≡ Ok g → negated_of e ≡ Ok (negated_given g)
unfolding negated_of
negated_state_lem e g h = ap negated_of h
