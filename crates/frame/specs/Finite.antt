-- Which number of a state is not finite: what refusal 15 says. Assumes nothing: this is a definition.
use Rattle.std.specs.Prelude.{ℕ, ◌<◌, ◌≡◌, false}
use Rattle.bits.specs.F64.{finite}
use Rattle.frame.specs.declared.State.{State}
use Rattle.frame.specs.State.{number}

-- A number of a state's six, from number 0 on, is not finite.
pub record Infinite (s : State) : Type 0 where
  pub place : ℕ
  pub below : place < 6
  pub not_finite : finite (number s place) ≡ false
