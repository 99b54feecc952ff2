-- Worked questions, tables under one statement each, which antt computes. A segment here is evaluated to six times a number, or refused.
-- Assumes nothing.
use Prim.Native.Nat.{ℕ}
use mathlib.Core.Path.{◌≡◌, refl}
use mathlib.Core.Bool.{true, false, cond}
use mathlib.Core.List.{List, [], ◌∷◌, map}
use lib.Dec.{eqb}
use lib.IntN.{pos}
use lib.Ieee.{Float, nan, inf, binary64, add, sub, mul, neg, le, is_nan, of_int, of_bits}
use Rattle.bits.specs.F64.{+0, whole}
use Rattle.bits.specs.Same.{same_z}
use Rattle.frame.specs.declared.State.{State}
use Rattle.frame.specs.State.{state_of, zero_state, negated_state, plus_state, minus_state, finite_state}
use Rattle.frame.specs.Frame.{matrix}
use Rattle.frame.specs.Given.{given_of}
use Rattle.frame.specs.declared.Framed.TheVariants.{Mixed}
use Rattle.refusal.specs.declared.Refusal.{Refusal}
use Rattle.refusal.specs.declared.Refusal.TheVariants.{EpochNan, NoCoverage, TableUnfit, NotFinite, NoSegment, OtherFrame, Unsupported}
use Rattle.segment.specs.declared.Segment.{Segment}
use Rattle.segment.specs.declared.Kind.TheVariants as kinds
use Rattle.std.proofs.Common.{Result, Ok, Err}
use Rattle.segment.specs.declared.Valued.{Valued}
use Rattle.table.specs.Choosing.{last_in}
use Rattle.table.specs.Marks.{others, marked_to}
use Rattle.chain.specs.Step.{met, look, step_in, step_from}
use Rattle.chain.specs.Walk.{walk_from, to_zero}
use Rattle.spk.specs.declared.Question.{Question}
use Rattle.std.proofs.Common.{Some, None}
use Rattle.spk.specs.declared.Way.{Way}
use Rattle.spk.specs.declared.Way.TheVariants.{Same, Forward, Reversed, Chained}
use Rattle.spk.specs.declared.Answer.{Answer}
use Rattle.spk.specs.declared.Asked.{Asked}
use Rattle.spk.specs.Choosing.{Memory, recall, forward_in}
use Rattle.spk.specs.Answers.{answer_of, refused_answer, same_answer, settled, negated_of, difference_of}
use Rattle.spk.specs.Asking.{chained, asked_by, asked}
use Rattle.spk.specs.Turning.{turned_by, turned_to, asked_in}
use Rattle.spk.specs.Alone.{alone_with, alone_answer}
use Rattle.spk.specs.Runs.{Asking, Plain, InFrame, Single, fresh, run}

-- a segment of a pair and two epochs, in a frame, of a type, with a number for its evaluation
abbrev named : ℕ → ℕ → ℕ → ℕ → ℕ → ℕ → ℕ → ℕ → Segment
named at f type t c a b x =
    record {
      target = pos t;
      center = pos c;
      frame = pos f;
      data_type = pos type;
      start = pos x;
      end = pos 9;
      first = whole a;
      last = whole b;
      name_at = at;
      marked = false;
      kind = kinds.Unsupported;
    }

abbrev in_frame : ℕ → ℕ → ℕ → ℕ → ℕ → ℕ → ℕ → Segment
in_frame = named 0

abbrev of_type : ℕ → ℕ → ℕ → ℕ → ℕ → ℕ → Segment
of_type = in_frame 1

-- six times a number
abbrev six : Float → State
six x = state_of (λ k. x)

-- a segment of type 2 gives six times its number, stretched where its name is at byte 1, one of type 3 six times infinity, and one of another type is
-- refused
abbrev evaluate : Segment → ℕ → Float → Result Valued Refusal
evaluate s i et =
    cond (same_z s.data_type (pos 2)) (Ok (record { state = six (of_int binary64 s.start); stretched = eqb s.name_at 1 }))
    (cond (same_z s.data_type (pos 3)) (Ok (record { state = six (inf false); stretched = true })) (Err (Unsupported s.data_type)))

-- 0, 1: 399 about 3 from 0 to 10 and from 7 to 12, which overlap; 2: 3 about 0; 3: 301 about 3; 4: 8 about 9, refused; 5: 10 about 0, not finite
abbrev six_of : List Segment
six_of =
    marked_to
    (of_type 2 399 3 0 10 1 ∷ of_type 2 399 3 7 12 2 ∷ of_type 2 3 0 0 20 4 ∷ of_type 2 301 3 0 20 8 ∷ of_type 1 8 9 0 20 0 ∷ of_type 3 10 0 0 20 0 ∷ [])
    6 6

abbrev pair : ℕ → ℕ → Float → Question
pair t c et = record { target = pos t; center = pos c; et = et }

abbrev ask : Memory → Question → Asked
ask m q = asked 6 evaluate six_of 6 m q

-- an answer of six times a number, in frame 1
abbrev in_1 : Way → Float → Answer
in_1 way x = answer_of way (given_of (six x) (pos 1) false)

abbrev gives : Way → Float → Memory → Asked
gives way x m = record { answer = in_1 way x; memory = m }

abbrev refuses : Refusal → Memory → Asked
refuses r m = record { answer = refused_answer r; memory = m }

-- the last wins forward, the ends included, and an unmarked segment is not remembered; where the second does not cover, the first
pub forward-cases :
    ask None (pair 399 3 (whole 7)) ∷ ask None (pair 399 3 (whole 12)) ∷ ask None (pair 399 3 (whole 3)) ∷ []
    ≡ gives (Forward 1) (whole 2) None ∷ gives (Forward 1) (whole 2) None ∷ gives (Forward 0) (whole 1) None ∷ []
unfolding asked_by forward_in recall last_in marked_to others settled refused_answer finite_state zero_state le is_nan of_int of_bits
forward-cases = refl

-- a marked segment is remembered, though its evaluation is refused or 15 follows; a reversed choice is not, and leaves what was
pub memory-cases :
    ask None (pair 3 0 (whole 3)) ∷ ask (Some 2) (pair 8 9 (whole 3)) ∷ ask (Some 2) (pair 10 0 (whole 3)) ∷ ask (Some 3) (pair 0 3 (whole 3)) ∷ []
    ≡ gives (Forward 2) (whole 4) (Some 2) ∷ refuses (Unsupported (pos 1)) (Some 4) ∷ refuses NotFinite (Some 5) ∷ gives (Reversed 2) (neg (whole 4)) (Some 3) ∷ []
unfolding asked_by forward_in recall last_in marked_to others settled negated_of negated_state refused_answer finite_state zero_state le neg is_nan of_int of_bits
memory-cases = refl

-- a remembered segment that is unmarked, of another pair, or past the count is not used
pub forged-cases :
    ask (Some 0) (pair 399 3 (whole 8)) ∷ ask (Some 2) (pair 301 3 (whole 3)) ∷ ask (Some 6) (pair 3 0 (whole 3)) ∷ []
    ≡ gives (Forward 1) (whole 2) (Some 0) ∷ gives (Forward 3) (whole 8) (Some 3) ∷ gives (Forward 2) (whole 4) (Some 2) ∷ []
unfolding asked_by forward_in recall last_in marked_to others settled refused_answer finite_state zero_state le is_nan of_int of_bits
forged-cases = refl

-- target equal to center gives zeros, with a NaN epoch and a forged count too; then 14; then 10
pub first-cases :
    asked 6 evaluate six_of 7 (Some 1) (pair 5 5 nan) ∷ asked 6 evaluate six_of 7 (Some 1) (pair 3 0 nan) ∷ ask (Some 1) (pair 3 0 nan) ∷ []
    ≡ gives Same +0 (Some 1) ∷ refuses TableUnfit (Some 1) ∷ refuses EpochNan (Some 1) ∷ []
unfolding asked_by forward_in recall last_in marked_to others settled same_answer refused_answer zero_state le is_nan of_int of_bits
first-cases = refl

-- the chain: the first wins there; a difference of equal walks is +0; a body without a way; the target's refusal comes first
pub chain-cases :
    ask None (pair 399 301 (whole 8)) ∷ ask None (pair 301 399 (whole 8)) ∷ ask None (pair 399 7 (whole 8)) ∷ ask None (pair 8 7 (whole 8)) ∷ []
    ≡ gives Chained (neg (whole 7)) None ∷ gives Chained (whole 7) None ∷ refuses (NoCoverage (pos 7)) None ∷ refuses (Unsupported (pos 1)) None ∷ []
unfolding asked_by forward_in recall last_in marked_to others settled refused_answer finite_state zero_state le neg is_nan of_int of_bits chained difference_of to_zero walk_from step_from step_in look met plus_state minus_state add sub
chain-cases = refl

-- a question in a frame, by the matrix of nine times a number
abbrev ask_in : ℕ → Float → Question → Answer
ask_in to x q = (asked_in 6 evaluate six_of 6 None q (Some (pos to)) (matrix 3 (λ i j. x))).answer

-- same-body zeros are turned as from J2000: nine times -1 make them -0; in J2000 and without a frame they stand, and in 13 they are 21; a refusal
-- stays; 15 is asked of the turned state
pub turned-cases :
    ask_in 17 (neg (whole 1)) (pair 5 5 nan) ∷ ask_in 1 (neg (whole 1)) (pair 5 5 nan) ∷ ask_in 13 (neg (whole 1)) (pair 5 5 nan)
    ∷ (asked_in 6 evaluate six_of 6 None (pair 5 5 nan) None (matrix 3 (λ i j. neg (whole 1)))).answer
    ∷ ask_in 17 (neg (whole 1)) (pair 8 9 (whole 3)) ∷ ask_in 17 (whole 1) (pair 3 0 (whole 3)) ∷ ask_in 17 (inf false) (pair 3 0 (whole 3)) ∷ []
    ≡ answer_of Same (given_of (six (neg +0)) (pos 17) false) ∷ in_1 Same +0 ∷ refused_answer OtherFrame ∷ in_1 Same +0
    ∷ refused_answer (Unsupported (pos 1)) ∷ answer_of (Forward 2) (given_of (six (whole 12)) (pos 17) false) ∷ refused_answer NotFinite ∷ []
unfolding asked_by forward_in recall last_in marked_to others settled same_answer refused_answer finite_state zero_state le neg is_nan of_int of_bits turned_to turned_by add mul
turned-cases = refl

-- 0: 5 about 0 in 17; 1: 6 about 0 in 13; 2, 3: 7 about 0 and about 8, in 17, the second passed over; 4: 9 about 0 in 1; 5: 8 about 7 in 1, refused
abbrev frames_of : List Segment
frames_of =
    in_frame 17 2 5 0 0 10 1 ∷ in_frame 13 2 6 0 0 10 2 ∷ in_frame 1 2 7 8 0 10 4 ∷ in_frame 17 2 7 0 0 10 4 ∷ in_frame 1 2 9 0 0 10 8 ∷ in_frame 17 1 8 7 0 10 0 ∷ []

abbrev frame_in_lem : ℕ → Float → Question → Answer
frame_in_lem to x q = (asked_in 6 evaluate frames_of 6 None q (Some (pos to)) (matrix 3 (λ i j. x))).answer

abbrev told : Way → Float → ℕ → Answer
told way x f = answer_of way (given_of (six x) (pos f) false)

-- a segment in 17 stands in 17 and is turned back to 1; one in 13 stands in 13 alone; by an infinity a state that stands is not touched
pub own-frame-cases :
    frame_in_lem 17 (inf false) (pair 5 0 (whole 3)) ∷ frame_in_lem 1 (whole 1) (pair 5 0 (whole 3)) ∷ frame_in_lem 13 (inf false) (pair 6 0 (whole 3)) ∷ frame_in_lem 1 (inf false) (pair 6 0 (whole 3)) ∷ frame_in_lem 17 (inf false) (pair 0 5 (whole 3)) ∷ []
    ≡ told (Forward 0) (whole 1) 17 ∷ told (Forward 0) (whole 3) 1 ∷ told (Forward 1) (whole 2) 13 ∷ refused_answer OtherFrame ∷ told (Reversed 0) (neg (whole 1)) 17 ∷ []
unfolding asked_by forward_in recall last_in settled negated_of negated_state refused_answer finite_state zero_state le neg is_nan of_int of_bits turned_to turned_by add mul
own-frame-cases = refl

-- a chain of 17 and 17 with a segment in 1 passed over stands in 17 and is turned back to 1; one of 17 and 1 is 21 in every frame, also by an infinity,
-- and has no frame of its own; a state's own refusal comes before 21
pub chain-frame-cases :
    frame_in_lem 17 (inf false) (pair 7 5 (whole 3)) ∷ frame_in_lem 1 (whole 1) (pair 7 5 (whole 3)) ∷ frame_in_lem 17 (inf false) (pair 9 5 (whole 3)) ∷ frame_in_lem 1 (whole 1) (pair 9 5 (whole 3))
    ∷ (asked 6 evaluate frames_of 6 None (pair 9 5 (whole 3))).answer ∷ frame_in_lem 13 (whole 1) (pair 8 7 (whole 3)) ∷ []
    ≡ told Chained (whole 3) 17 ∷ told Chained (whole 9) 1 ∷ refused_answer OtherFrame ∷ refused_answer OtherFrame
    ∷ answer_of Chained (record { state = six (whole 7); frame = Mixed; stretched = false }) ∷ refused_answer (Unsupported (pos 1)) ∷ []
unfolding asked_by forward_in recall last_in settled refused_answer finite_state zero_state le neg is_nan of_int of_bits turned_to turned_by add mul chained difference_of to_zero walk_from step_from step_in look met plus_state minus_state sub
chain-frame-cases = refl

-- a segment alone, covering or not: 14, 10, 17, its own refusal, 15
pub alone-cases :
    alone_answer 6 evaluate six_of 6 0 (whole 99) ∷ alone_answer 6 evaluate six_of 7 9 nan ∷ alone_answer 6 evaluate six_of 6 9 nan ∷ alone_answer 6 evaluate six_of 6 6 (whole 3)
    ∷ alone_answer 6 evaluate six_of 6 4 (whole 3) ∷ alone_answer 6 evaluate six_of 6 5 (whole 3) ∷ []
    ≡ in_1 (Forward 0) (whole 1) ∷ refused_answer TableUnfit ∷ refused_answer EpochNan ∷ refused_answer NoSegment ∷ refused_answer (Unsupported (pos 1)) ∷ refused_answer NotFinite ∷ []
unfolding alone_with marked_to others settled refused_answer finite_state zero_state le is_nan of_int of_bits
alone-cases = refl

-- a run with the memory, and without: a remembered answer, one of another pair, a refusal, a reversed one, a segment alone
abbrev asks : List Asking
asks =
    Plain (pair 3 0 (whole 3)) ∷ Plain (pair 3 0 (whole 4)) ∷ Plain (pair 399 3 (whole 8)) ∷ Plain (pair 8 9 (whole 3)) ∷ InFrame (pair 0 3 (whole 3)) None [] ∷ Single 3 (whole 3) ∷ Plain (pair 3 0 (whole 5)) ∷ []

pub run_cases_lem : run 6 evaluate six_of 6 None asks ≡ map (fresh 6 evaluate six_of 6) asks
unfolding run asked_by forward_in recall last_in marked_to others settled negated_of negated_state refused_answer finite_state zero_state le neg is_nan of_int of_bits alone_with
run_cases_lem = refl

-- 0: 5 about 0, stretched; 1: 6 about 0; 2, 3: 7 about 8, stretched, and about 0, so that 2 is passed over; 4: 9 about 0, stretched and not finite
abbrev stretched_of_lem : List Segment
stretched_of_lem = named 1 1 2 5 0 0 10 1 ∷ of_type 2 6 0 0 10 2 ∷ named 1 1 2 7 8 0 10 4 ∷ of_type 2 7 0 0 10 8 ∷ of_type 3 9 0 0 10 0 ∷ []

abbrev word_of : Question → Answer
word_of q = (asked 5 evaluate stretched_of_lem 5 None q).answer

abbrev yes : Way → Float → ℕ → Answer
yes way x f = answer_of way (given_of (six x) (pos f) true)

-- forward, reversed and alone an answer says what its segment says, turned to another frame too; a chain yes where the target's walk or the center's
-- does, and no where a stretched segment was passed over; same-body zeros and a refusal no
pub word-cases :
    word_of (pair 5 0 (whole 3)) ∷ word_of (pair 0 5 (whole 3)) ∷ word_of (pair 6 0 (whole 3)) ∷ alone_answer 5 evaluate stretched_of_lem 5 0 (whole 99)
    ∷ (asked_in 5 evaluate stretched_of_lem 5 None (pair 5 0 (whole 3)) (Some (pos 17)) (matrix 3 (λ i j. whole 1))).answer ∷ word_of (pair 5 6 (whole 3)) ∷ word_of (pair 6 5 (whole 3))
    ∷ word_of (pair 7 6 (whole 3)) ∷ word_of (pair 5 5 (whole 3)) ∷ word_of (pair 9 0 (whole 3)) ∷ []
    ≡ yes (Forward 0) (whole 1) 1 ∷ yes (Reversed 0) (neg (whole 1)) 1 ∷ in_1 (Forward 1) (whole 2) ∷ yes (Forward 0) (whole 1) 1
    ∷ yes (Forward 0) (whole 3) 17 ∷ yes Chained (neg (whole 1)) 1 ∷ yes Chained (whole 1) 1
    ∷ in_1 Chained (whole 6) ∷ in_1 Same +0 ∷ refused_answer NotFinite ∷ []
unfolding asked_by forward_in recall last_in settled same_answer negated_of negated_state refused_answer finite_state zero_state le neg is_nan of_int of_bits turned_to turned_by add mul alone_with chained difference_of to_zero walk_from step_from step_in look met plus_state minus_state sub
word-cases = refl
