-- The line of an answer, as ASCII codes.
use Rattle.std.specs.Prelude.{ℕ, ◌+◌, List, [], ◌∷◌, ◌++◌}
use Rattle.frame.specs.declared.Given.{Given}
use Rattle.lines.specs.Text.{space, decimal_text, tail_text, numbered_refusal_text}
use Rattle.lines.specs.Room.{decimal_room, tail_room}
use Rattle.spk.specs.declared.Answer.{Answer}
use Rattle.spk.specs.declared.Way.{Way}
use Rattle.spk.specs.declared.Way.TheVariants.{Same, Forward, Reversed, Chained, Refused}

-- The words `same`, `forward`, `reversed` and `chained`, after a space.
abbrev pub same_word : List ℕ
same_word = space ∷ 115 ∷ 97 ∷ 109 ∷ 101 ∷ []

abbrev pub forward_word : List ℕ
forward_word = space ∷ 102 ∷ 111 ∷ 114 ∷ 119 ∷ 97 ∷ 114 ∷ 100 ∷ space ∷ []

abbrev pub reversed_word : List ℕ
reversed_word = space ∷ 114 ∷ 101 ∷ 118 ∷ 101 ∷ 114 ∷ 115 ∷ 101 ∷ 100 ∷ space ∷ []

abbrev pub chained_word : List ℕ
chained_word = space ∷ 99 ∷ 104 ∷ 97 ∷ 105 ∷ 110 ∷ 101 ∷ 100 ∷ []

-- The question's number, a word, whether a record was stretched, the state.
unfoldable pub word_line : ℕ → List ℕ → Given → List ℕ
word_line i word g = decimal_text i ++ (word ++ tail_text g.stretched g.state)

-- The question's number, a word, the segment's number, whether a record was stretched, the state.
unfoldable pub named_line : ℕ → List ℕ → ℕ → Given → List ℕ
named_line i word segment g = decimal_text i ++ (word ++ (decimal_text segment ++ tail_text g.stretched g.state))

-- The line of a way and what was given. A refused answer has its number and the line of its refusal.
unfoldable pub way_line : ℕ → Way → Given → List ℕ
unfolding word_line named_line
way_line i Same g = word_line i same_word g
way_line i (Forward segment) g = named_line i forward_word segment g
way_line i (Reversed segment) g = named_line i reversed_word segment g
way_line i Chained g = word_line i chained_word g
way_line i (Refused r) g = numbered_refusal_text i r

-- The line of answer i.
unfoldable pub answer_text : ℕ → Answer → List ℕ
unfolding way_line
answer_text i a = way_line i a.way a.given

-- The longest word has 10 bytes. So many has a line at most: two numbers in decimal, two words, six numbers and the newline.
abbrev pub word_room : ℕ
word_room = 10

abbrev pub answer_room : ℕ
answer_room = decimal_room + word_room + decimal_room + tail_room
