-- An answer is told whole in the numbers and words of RULES: two that are told alike are one, and so is what is remembered. Assumes nothing.
use Prim.Native.Nat.{ℕ}
use mathlib.Core.Path.{◌≡◌, refl, ap, ap₂}
use mathlib.Core.List.{List, [], ◌∷◌}
use Rattle.refusal.specs.Told.{Numbered}
use Rattle.refusal.proofs.Told.{told_back, refusal_of_lem, refusal_of}
use Rattle.spk.specs.Choosing.{Memory}
use Rattle.std.proofs.Common.{Some, None}
use Rattle.spk.specs.declared.Way.{Way}
use Rattle.spk.specs.declared.Way.TheVariants.{Same, Forward, Reversed, Chained, Refused}
use Rattle.spk.specs.declared.Answer.{Answer}
use Rattle.spk.specs.declared.Asked.{Asked}
use Rattle.spk.specs.Answers.{answer_of}
use Rattle.spk.specs.Told.{Word, same, forward, reversed, chained, refused, ToldWay, way_told, Told, answer_told, ToldAfter, memory_told, asked_told}

abbrev first : List ℕ → ℕ
first [] = 0
first (i ∷ is) = i

abbrev by_word : Word → Numbered → List ℕ → Way
by_word same p is = Same
by_word forward p is = Forward (first is)
by_word reversed p is = Reversed (first is)
by_word chained p is = Chained
by_word refused p is = Refused (refusal_of_lem p)

abbrev way_of : ToldWay → Way
way_of t = by_word t.word t.numbered t.segments

way_of_lem : (w : Way) → way_of (way_told w) ≡ w
way_of_lem Same = refl
way_of_lem (Forward i) = refl
way_of_lem (Reversed i) = refl
way_of_lem Chained = refl
way_of_lem (Refused r) = ap Refused (refusal_of r)

abbrev answered : Told → Answer
answered t = answer_of (way_of t.way) (record { state = t.six; frame = t.frame; stretched = t.stretched })

answer_of_lem : (a : Answer) → answered (answer_told a) ≡ a
answer_of_lem a = ap (λ (w : Way). answer_of w a.given) (way_of_lem a.way)

pub one_answer : (a a' : Answer) → answer_told a ≡ answer_told a' → a ≡ a'
one_answer = told_back answer_told answered answer_of_lem

abbrev memory_of_lem : List ℕ → Memory
memory_of_lem [] = None
memory_of_lem (i ∷ is) = Some i

memory_of : (m : Memory) → memory_of_lem (memory_told m) ≡ m
memory_of None = refl
memory_of (Some i) = refl

abbrev with_memory : Answer → Memory → Asked
with_memory a m = record { answer = a; memory = m }

pub one_asked : (a a' : Asked) → asked_told a ≡ asked_told a' → a ≡ a'
one_asked = told_back asked_told (λ (t : ToldAfter). with_memory (answered t.answer) (memory_of_lem t.remembered)) (λ a. ap₂ with_memory (answer_of_lem a.answer) (memory_of a.memory))
