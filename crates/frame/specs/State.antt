-- A state: the position x, y, z and the velocity vx, vy, vz, always listed in this order.
use Rattle.std.specs.Prelude.{ℕ, Bool, ◌&&◌, List, [], ◌∷◌, Float}
use Rattle.std.specs.Float.Ieee.{neg}
use Rattle.bits.specs.F64.{◌⊕◌, ◌⊖◌, +0, at, finite}
use Rattle.frame.specs.declared.State.{State}

-- The six numbers of a state.
abbrev pub six : State → List Float
six s = s.x ∷ s.y ∷ s.z ∷ s.vx ∷ s.vy ∷ s.vz ∷ []

-- Number k of the six.
abbrev pub number : State → ℕ → Float
number s k = at (six s) k

-- The state whose number k is f k.
abbrev pub state_of : (ℕ → Float) → State
state_of f = record { x = f 0; y = f 1; z = f 2; vx = f 3; vy = f 4; vz = f 5 }

-- Six times +0.
unfoldable pub zero_state : State
zero_state = state_of (λ k. +0)

-- Each number with the other sign, also of a zero.
unfoldable pub negated_state : State → State
negated_state s = state_of (λ k. neg (number s k))

-- The sum, number by number.
unfoldable pub plus_state : State → State → State
plus_state a b = state_of (λ k. number a k ⊕ number b k)

-- The difference, number by number.
unfoldable pub minus_state : State → State → State
minus_state a b = state_of (λ k. number a k ⊖ number b k)

-- Whether all six are finite.
unfoldable pub finite_state : State → Bool
finite_state s = finite s.x && finite s.y && finite s.z && finite s.vx && finite s.vy && finite s.vz
