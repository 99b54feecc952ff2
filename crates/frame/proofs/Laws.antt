-- What the definitions of states and matrices say together. Assumes nothing.
use mathlib.Core.Path.{◌≡◌, refl, ap, ap₂, ◌∙◌}
use mathlib.Core.Bool.{Bool, true, cond}
use lib.Ieee.{Float, nan, inf, fin, neg, of_bits}
use Rattle.bits.specs.F64.{finite}
use Rattle.frame.specs.State.{zero_state, negated_state, finite_state}
use Rattle.frame.specs.Frame.{Matrix, matrix, cell, transpose_of}
use Rattle.frame.specs.declared.State.{State}
use Rattle.frame.specs.Framed.{is_forth, turn_from, turn_of}
use Rattle.frame.specs.declared.Given.{Given}
use Rattle.bits.specs.Same.{same_z}
use Rattle.frame.specs.declared.Framed.TheVariants.{One}
use Rattle.frame.specs.declared.Turn.TheVariants.{Stands, Forth, Back, Never}
use Rattle.bits.proofs.Tests.{same_z_refl}
use lib.IntN.{ℤ}

-- the zero state is finite
pub zero_finite : finite_state zero_state ≡ true
unfolding finite_state zero_state of_bits
zero_finite = refl

-- the other sign changes nothing in whether a number is finite
neg_finite : (x : Float) → finite (neg x) ≡ finite x
unfolding neg
neg_finite nan = refl
neg_finite (inf s) = refl
neg_finite (fin s m e) = refl

-- nor in whether a state is
pub negated_finite : (s : State) → finite_state (negated_state s) ≡ finite_state s
unfolding finite_state negated_state
negated_finite s = simp neg_finite

-- in its own frame a state stands, whatever the frame is
pub same_frame : (f : ℤ) → turn_of (One f) f ≡ Stands
same_frame f = ap (λ (b : Bool). cond b Stands (cond (is_forth f f) Forth (cond (is_forth f f) Back Never))) (same_z_refl f)

-- a matrix transposed twice has its own nine numbers
pub transpose_twice : (m : Matrix) → transpose_of (transpose_of m) ≡ matrix 3 (cell m)
transpose_twice m = refl
