-- How many bytes the parts of a line have at most, and the room of a whole text. Assumes nothing: these are definitions.
use Rattle.std.specs.Prelude.{ℕ, ◌+◌, ◌*◌, cond, ltb}

-- A number in decimal.
abbrev pub decimal_room : ℕ
decimal_room = 20

-- A space and a signed number.
abbrev pub field_room : ℕ
field_room = 22

-- A space and `yes`.
abbrev pub yes_room : ℕ
yes_room = 4

-- A space and `yes`, six numbers of a space and 16 digits, and the newline.
abbrev pub tail_room : ℕ
tail_room = 107

-- The line of a refusal; and of a refused question, its number before it.
abbrev pub refusal_room : ℕ
refusal_room = 51

abbrev pub numbered_refusal_room : ℕ
numbered_refusal_room = decimal_room + 1 + refusal_room

-- A line for each of n questions, or the line of one refusal.
abbrev pub text_room : ℕ → ℕ → ℕ
text_room line n = line * n + refusal_room

-- The largest number of 64 bits, which stands for a room that is larger: no buffer has so many bytes.
abbrev pub largest : ℕ
largest = 0xffff_ffff_ffff_ffff

abbrev pub capped : ℕ → ℕ
capped n = cond (ltb largest n) largest n
