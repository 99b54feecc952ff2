-- Runs of questions, with the memory that goes from each to the next, and with none. Assumes nothing: these are definitions.
use Rattle.std.specs.Prelude.{ℕ, cond, List, [], ◌∷◌, eqb, Float, ℤ, Option, None}
use Rattle.frame.specs.Frame.{Matrix}
use Rattle.segment.specs.declared.Segment.{Segment}
use Rattle.chain.specs.Step.{Evaluation}
use Rattle.spk.specs.declared.Question.{Question}
use Rattle.spk.specs.declared.Answer.{Answer}
use Rattle.spk.specs.declared.Asked.{Asked}
use Rattle.spk.specs.Choosing.{Memory, last_forward}
use Rattle.spk.specs.Asking.{asked_by, asked}
use Rattle.spk.specs.Turning.{turned_answer, asked_in}
use Rattle.spk.specs.Alone.{alone_answer}

-- What can be asked: a state, a state in a frame with a matrix, a segment alone by its number at an epoch.
pub data Asking : Type 0 where
  Plain : Question → Asking
  InFrame : Question → Option ℤ → Matrix → Asking
  Single : ℕ → Float → Asking

-- A state with no memory: the forward choice is the pair's last covering segment in file order.
abbrev pub answered : ℕ → Evaluation → List Segment → ℕ → Question → Answer
answered limit ev segs n q = (asked_by limit ev segs n None q (last_forward segs n q)).answer

-- The answer with no memory, of every kind. It names its segment, where one alone answers.
abbrev pub fresh : ℕ → Evaluation → List Segment → ℕ → Asking → Answer
fresh limit ev segs n (Plain q) = answered limit ev segs n q
fresh limit ev segs n (InFrame q wanted rot) = turned_answer wanted rot (answered limit ev segs n q)
fresh limit ev segs n (Single i et) = alone_answer limit ev segs n i et

-- The answer with a memory, and what is remembered after it. Of a segment alone no memory takes part.
abbrev pub replied : ℕ → Evaluation → List Segment → ℕ → Memory → Asking → Asked
replied limit ev segs n m (Plain q) = asked limit ev segs n m q
replied limit ev segs n m (InFrame q wanted rot) = asked_in limit ev segs n m q wanted rot
replied limit ev segs n m (Single i et) = record { answer = alone_answer limit ev segs n i et; memory = m }

-- A run: the memory goes from each question to the next.
unfoldable pub run : ℕ → Evaluation → List Segment → ℕ → Memory → List Asking → List Answer
run limit ev segs n m [] = []
run limit ev segs n m (a ∷ rest) =
    let now = replied limit ev segs n m a in
    now.answer ∷ run limit ev segs n now.memory rest

-- A run for many customers, each named by a number: who asked, and what was answered.
unfoldable pub serve : ℕ → Evaluation → List Segment → ℕ → Memory → List (ℕ × Asking) → List (ℕ × Answer)
serve limit ev segs n m [] = []
serve limit ev segs n m (t ∷ ts) =
    let now = replied limit ev segs n m t.1 in
    (t.0, now.answer) ∷ serve limit ev segs n now.memory ts

-- What is one customer's, in order.
unfoldable pub of_customer : {A : Type 0} → ℕ → List (ℕ × A) → List A
of_customer who [] = []
of_customer who (t ∷ ts) =
    let rest = of_customer who ts in
    cond (eqb t.0 who) (t.1 ∷ rest) rest
