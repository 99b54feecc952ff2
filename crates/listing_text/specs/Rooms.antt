-- The most bytes that each part of a listing has, and room for all of it.
use Rattle.std.specs.Prelude.{ℕ, ◌+◌, ◌*◌, ◌/◌}
use Rattle.table.specs.Places.{limit_of}
use Rattle.lines.specs.Room.{decimal_room, field_room, refusal_room, text_room}
use Rattle.streams.specs.Input.{input_limit}

-- ` yes` and the newline.
abbrev pub mark_room : ℕ
mark_room = 5

-- Four fields.
abbrev pub head_room : ℕ
head_room = 4 * field_room

-- Two numbers of 17, two fields, the mark.
abbrev pub span_room : ℕ
span_room = 2 * 17 + 2 * field_room + mark_room

-- The line of a segment: its number, then both parts.
abbrev pub line_room : ℕ
line_room = decimal_room + head_room + span_room

-- The line that says how many there are: `segments `, the number, the newline.
abbrev pub count_room : ℕ
count_room = 9 + decimal_room + 1

-- That line, or the line of a refusal.
abbrev pub first_room : ℕ
first_room = refusal_room

-- The most segments in a run of so many bytes: 25 for each record of 1,024 bytes (7), since the walk visits a record once (6).
abbrev pub segments_in : ℕ → ℕ
segments_in n = 25 * (n / 1024)

-- The most of a kernel of so many bytes: 4,096 at most (8).
unfoldable pub most_segments : ℕ → ℕ
most_segments n = limit_of (segments_in n)

-- Room for the listing of a kernel of so many bytes.
abbrev pub listing_room : ℕ → ℕ
listing_room n = text_room line_room (most_segments n)

-- Room for what the program prints, whatever it is given.
abbrev pub output_room : ℕ
output_room = text_room line_room (segments_in input_limit)
