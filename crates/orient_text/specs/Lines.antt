-- The line of an orientation, as ASCII codes.
use Rattle.std.specs.Prelude.{ℕ, ◌+◌, List, ◌++◌, Result, Ok, Err}
use Rattle.lines.specs.Text.{decimal_text, field_text, tail_text, numbered_refusal_text}
use Rattle.lines.specs.Room.{decimal_room, field_room, tail_room}
use Rattle.refusal.specs.declared.Refusal.{Refusal}
use Rattle.pck.specs.declared.Oriented.{Oriented}

-- The question's number, the reference frame, whether a record was stretched, the six numbers.
unfoldable pub turned_text : ℕ → Oriented → List ℕ
turned_text i a = decimal_text i ++ (field_text a.frame ++ tail_text a.stretched a.angles)

-- By the outcome: a refused question has its number and the line of its refusal.
abbrev pub outcome_text : ℕ → Oriented → Result (Unit {0}) Refusal → List ℕ
outcome_text i a (Ok _) = turned_text i a
outcome_text i a (Err r) = numbered_refusal_text i r

-- The line of orientation i.
unfoldable pub oriented_text : ℕ → Oriented → List ℕ
oriented_text i a = outcome_text i a a.outcome

-- So many bytes has a line at most: the number, the frame, a word, six numbers and the newline.
abbrev pub oriented_room : ℕ
oriented_room = decimal_room + field_room + tail_room
