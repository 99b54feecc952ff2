-- The frame of a state's numbers, and to which frames it is turned: RULES, "Questions to an SPK". Assumes nothing: these are definitions.
use Rattle.std.specs.Prelude.{Bool, cond, ◌&&◌, ℤ, pos}
use Rattle.bits.specs.Same.{same_z}
use Rattle.frame.specs.declared.Framed.{Framed}
use Rattle.frame.specs.declared.Framed.TheVariants.{Nothing, One, Mixed}
use Rattle.frame.specs.declared.Turn.{Turn}
use Rattle.frame.specs.declared.Turn.TheVariants.{Stands, Forth, Back, Never}

-- The two frames that a matrix turns between, by their numbers.
abbrev pub j2000 : ℤ
j2000 = pos 1

abbrev pub eclip_j2000 : ℤ
eclip_j2000 = pos 17

-- Numbers of two frames together: the frame that both are, or several.
abbrev pub joined_one : ℤ → ℤ → Framed
joined_one f g = cond (same_z f g) (One f) Mixed

-- Numbers of one frame with others.
abbrev pub joined_with : ℤ → Framed → Framed
joined_with f Nothing = One f
joined_with f (One g) = joined_one f g
joined_with f Mixed = Mixed

-- The frame of two sums together: a sum that no segment has entered changes nothing.
abbrev pub joined : Framed → Framed → Framed
joined Nothing b = b
joined (One f) b = joined_with f b
joined Mixed b = Mixed

-- From J2000 to ECLIPJ2000.
abbrev pub is_forth : ℤ → ℤ → Bool
is_forth from to = same_z from j2000 && same_z to eclip_j2000

-- From one frame to another: in its own frame a state stands, from 1 to 17 the matrix turns it, from 17 to 1 its transpose, and nothing turns it
-- between any other two.
abbrev pub turn_from : ℤ → ℤ → Turn
turn_from from to = cond (same_z from to) Stands (cond (is_forth from to) Forth (cond (is_forth to from) Back Never))

-- Numbers of several frames stand in none.
abbrev pub turn_of : Framed → ℤ → Turn
turn_of Nothing to = Never
turn_of (One from) to = turn_from from to
turn_of Mixed to = Never
