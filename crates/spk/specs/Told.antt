-- An answer to a question, in the numbers and words of RULES, "Refusals" and "Programs". Assumes nothing: these are definitions.
use Rattle.std.specs.Prelude.{ℕ, Bool, List, [], ◌∷◌, Some, None}
use Rattle.frame.specs.declared.State.{State}
use Rattle.frame.specs.declared.Framed.{Framed}
use Rattle.refusal.specs.Told.{Numbered, refused_by, answered}
use Rattle.spk.specs.Choosing.{Memory}
use Rattle.spk.specs.declared.Way.{Way}
use Rattle.spk.specs.declared.Way.TheVariants.{Same, Forward, Reversed, Chained, Refused}
use Rattle.spk.specs.declared.Answer.{Answer}
use Rattle.spk.specs.declared.Asked.{Asked}

-- The words of RULES, "Programs", for how a question was answered.
pub data Word : Type 0 where
  same : Word
  forward : Word
  reversed : Word
  chained : Word
  refused : Word

-- A way: number and detail, the word, and the segment that is named, which is one forward and reversed, else none.
pub record ToldWay : Type 0 where
  pub numbered : Numbered
  pub word : Word
  pub segments : List ℕ

abbrev pub way_told : Way → ToldWay
way_told Same = record { numbered = answered; word = same; segments = [] }
way_told (Forward i) = record { numbered = answered; word = forward; segments = i ∷ [] }
way_told (Reversed i) = record { numbered = answered; word = reversed; segments = i ∷ [] }
way_told Chained = record { numbered = answered; word = chained; segments = [] }
way_told (Refused r) = record { numbered = refused_by r; word = refused; segments = [] }

-- An answer: its way, the six numbers and their frame, and whether a record was stretched.
pub record Told : Type 0 where
  pub way : ToldWay
  pub six : State
  pub frame : Framed
  pub stretched : Bool

abbrev pub answer_told : Answer → Told
answer_told a = record { way = way_told a.way; six = a.given.state; frame = a.given.frame; stretched = a.given.stretched }

-- With a memory: the answer, and the segment that is remembered after it, or none.
pub record ToldAfter : Type 0 where
  pub answer : Told
  pub remembered : List ℕ

abbrev pub memory_told : Memory → List ℕ
memory_told None = []
memory_told (Some i) = i ∷ []

abbrev pub asked_told : Asked → ToldAfter
asked_told a = record { answer = answer_told a.answer; remembered = memory_told a.memory }
