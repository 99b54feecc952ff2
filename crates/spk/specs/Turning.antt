-- The frame that a state is asked in: RULES, "Questions to an SPK". Assumes nothing: these are definitions.
use Rattle.std.specs.Prelude.{ℕ, Bool, true, false, cond, List, ℤ, Option, Some, None}
use Rattle.frame.specs.declared.Framed.{Framed}
use Rattle.frame.specs.declared.Turn.{Turn}
use Rattle.frame.specs.declared.Turn.TheVariants.{Stands, Forth, Back, Never}
use Rattle.frame.specs.Frame.{Matrix, transpose_of}
use Rattle.frame.specs.Framed.{turn_of}
use Rattle.frame.specs.Given.{turned_given}
use Rattle.refusal.specs.declared.Refusal.TheVariants.{OtherFrame}
use Rattle.segment.specs.declared.Segment.{Segment}
use Rattle.std.specs.Prelude.{Ok}
use Rattle.chain.specs.Step.{Evaluation}
use Rattle.spk.specs.declared.Question.{Question}
use Rattle.spk.specs.Choosing.{Memory}
use Rattle.spk.specs.declared.Way.{Way}
use Rattle.spk.specs.declared.Way.TheVariants.{Same, Forward, Reversed, Chained, Refused}
use Rattle.spk.specs.declared.Answer.{Answer}
use Rattle.spk.specs.declared.Asked.{Asked}
use Rattle.spk.specs.Answers.{refused_answer, settled}
use Rattle.spk.specs.Asking.{asked}

-- The frame that an answer's numbers are in: that of the segments that gave them.
abbrev pub frame_of : Answer → Framed
frame_of a = a.given.frame

abbrev pub is_refused : Way → Bool
is_refused Same = false
is_refused (Forward i) = false
is_refused (Reversed i) = false
is_refused Chained = false
is_refused (Refused r) = true

-- An answer as the turn to a frame makes it. In its own frame it stands, bit for bit; the matrix turns it from 1 to 17, its transpose from 17 to 1,
-- and then 15 is asked of the turned state; anything else is 21.
unfoldable pub turned_by : Turn → ℤ → Matrix → Answer → Answer
turned_by Stands to rot a = a
turned_by Forth to rot a = settled a.way (Ok (turned_given rot to a.given))
turned_by Back to rot a = settled a.way (Ok (turned_given (transpose_of rot) to a.given))
turned_by Never to rot a = refused_answer OtherFrame

-- The answer in a frame: the state's refusal first.
unfoldable pub turned_to : ℤ → Matrix → Answer → Answer
turned_to to rot a = cond (is_refused a.way) a (turned_by (turn_of (frame_of a) to) to rot a)

-- Without a frame it is given as it stands.
abbrev pub turned_answer : Option ℤ → Matrix → Answer → Answer
turned_answer None rot a = a
turned_answer (Some to) rot a = turned_to to rot a

-- Turning leaves the memory.
abbrev pub turned_asked : Option ℤ → Matrix → Asked → Asked
turned_asked wanted rot a = record { answer = turned_answer wanted rot a.answer; memory = a.memory }

-- A question in a frame.
abbrev pub asked_in : ℕ → Evaluation → List Segment → ℕ → Memory → Question → Option ℤ → Matrix → Asked
asked_in limit ev segs n m q wanted rot = turned_asked wanted rot (asked limit ev segs n m q)
