-- What an answer holds, and how it comes of what segments gave. Assumes nothing: these are definitions.
use Rattle.std.specs.Prelude.{Bool, false, cond}
use Rattle.frame.specs.declared.Given.{Given}
use Rattle.frame.specs.State.{zero_state, finite_state}
use Rattle.frame.specs.Framed.{j2000}
use Rattle.frame.specs.Given.{nothing_given, given_of, negated_given, minus_given}
use Rattle.refusal.specs.declared.Refusal.{Refusal}
use Rattle.refusal.specs.declared.Refusal.TheVariants.{NotFinite}
use Rattle.std.specs.Prelude.{Result, Ok, Err}
use Rattle.spk.specs.declared.Way.{Way}
use Rattle.spk.specs.declared.Way.TheVariants as ways
use Rattle.spk.specs.declared.Answer.{Answer}

-- Every answer is made here: it names its way, with the segment's number where one alone answers, and holds the state with what is known of it.
abbrev pub answer_of : Way → Given → Answer
answer_of way given = record { way = way; given = given }

-- A refusal: its number and detail, six zeros and no segment, and no record was stretched.
unfoldable pub refused_answer : Refusal → Answer
refused_answer r = answer_of (ways.Refused r) nothing_given

-- Target equals center: zeros in J2000, of no record.
unfoldable pub same_answer : Answer
same_answer = answer_of ways.Same (given_of zero_state j2000 false)

-- Whether a record was stretched.
abbrev pub stretched_of : Answer → Bool
stretched_of a = a.given.stretched

-- The answer by a way, of what segments gave: the refusal, then 15, then the state.
unfoldable pub settled : Way → Result Given Refusal → Answer
settled way (Ok g) = cond (finite_state g.state) (answer_of way g) (refused_answer NotFinite)
settled way (Err r) = refused_answer r

-- All six numbers negated.
unfoldable pub negated_of : Result Given Refusal → Result Given Refusal
negated_of (Ok g) = Ok (negated_given g)
negated_of (Err r) = Err r

-- A state less another that may be refused.
abbrev pub less_of : Given → Result Given Refusal → Result Given Refusal
less_of a (Ok b) = Ok (minus_given a b)
less_of a (Err r) = Err r

-- The first less the second. The first's refusal comes first.
unfoldable pub difference_of : Result Given Refusal → Result Given Refusal → Result Given Refusal
difference_of (Ok a) e = less_of a e
difference_of (Err r) e = Err r
