-- A state that segments gave, with what is known of it: the frame of its numbers, and whether a record was stretched. Assumes nothing: these are definitions.
use Rattle.std.specs.Prelude.{Bool, false, ◌||◌, ℤ}
use Rattle.frame.specs.declared.State.{State}
use Rattle.frame.specs.declared.Framed.TheVariants.{Nothing, One}
use Rattle.frame.specs.declared.Given.{Given}
use Rattle.frame.specs.State.{zero_state, negated_state, plus_state, minus_state}
use Rattle.frame.specs.Frame.{Matrix, turned_state}
use Rattle.frame.specs.Framed.{joined}

-- Six times +0, which no segment gave: what a sum starts with.
abbrev pub nothing_given : Given
nothing_given = record { state = zero_state; frame = Nothing; stretched = false }

-- A state in a frame, stretched or not.
abbrev pub given_of : State → ℤ → Bool → Given
given_of s f b = record { state = s; frame = One f; stretched = b }

-- All six numbers negated.
abbrev pub negated_given : Given → Given
negated_given a = record { state = negated_state a.state; frame = a.frame; stretched = a.stretched }

-- The sum, and the difference: the frames are joined, and it is stretched where one of the two is.
abbrev pub plus_given : Given → Given → Given
plus_given a b = record { state = plus_state a.state b.state; frame = joined a.frame b.frame; stretched = a.stretched || b.stretched }

abbrev pub minus_given : Given → Given → Given
minus_given a b = record { state = minus_state a.state b.state; frame = joined a.frame b.frame; stretched = a.stretched || b.stretched }

-- The state turned by a matrix to a frame.
abbrev pub turned_given : Matrix → ℤ → Given → Given
turned_given m to a = given_of (turned_state m a.state) to a.stretched
