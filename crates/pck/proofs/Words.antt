-- WHETHER AN ORIENTATION WAS STRETCHED.
--     word_turned    an orientation says yes exactly where its epoch is not inside the records of the segment that answers
--     word_alone     so does one of a segment alone
--     word_refused, alone_refused    a refusal says no
-- Assumes nothing.
use Prim.Native.Nat.{ℕ}
use mathlib.Core.Path.{◌≡◌, refl, sym, ap}
use mathlib.Core.Bool.{Bool, true, false, cond}
use mathlib.Core.List.{List, [], ◌∷◌}
use lib.Dec.{ltb, leb}
use lib.IntN.{nat_abs}
use lib.Ieee.{Float, is_nan}
use Rattle.refusal.specs.declared.Refusal.{Refusal}
use Rattle.refusal.specs.declared.Refusal.TheVariants.{TableUnfit, EpochNan, NoSegment, NotFinite}
use Rattle.refusal.specs.Order.{case, first_of}
use Rattle.frame.specs.State.{finite_state}
use Rattle.daf.specs.declared.Family.TheVariants.{Pck}
use Rattle.segment.specs.declared.Segment.{Segment}
use Rattle.segment.specs.declared.Valued.{Valued}
use Rattle.std.proofs.Common.{Result, Ok, Err}
use Rattle.segment.specs.Evaluating.{stretched_at, evaluated}
use Rattle.segment.proofs.Refusals.{answered_value}
use Rattle.std.proofs.Common.{Option, Some, None}
use Rattle.table.specs.Segments.{seg}
use Rattle.pck.specs.declared.Question.{Question}
use Rattle.std.specs.Prelude.{Result, Ok, Err}
use Rattle.pck.specs.declared.Oriented.{Oriented}
use Rattle.pck.specs.Orienting.{oriented_of, refused_oriented, settled, chosen, no_coverage, oriented_by, oriented}
use Rattle.pck.specs.Alone.{AloneBy, alone_with, alone_oriented}
use Rattle.pck.specs.When.{RefusedBy}
use Rattle.pck.proofs.Exactly.{clash}

-- what segment i says at et on a kernel
abbrev pub word_of : List ℕ → List Segment → ℕ → Float → Bool
word_of k segs i et = stretched_at k (nat_abs (seg segs i).start) (seg segs i).kind et

no_turn : {X : Type 0} (r : Refusal) → ◌≡◌ {A = Result (Unit {0}) Refusal} (Err r) (Ok tt) → X
no_turn r h = clash (cc)

-- one segment's answer
settled_word : (k : List ℕ) (s : Segment) (i : ℕ) (et : Float) → (settled s (evaluated Pck k s i et)).outcome ≡ Ok tt
    → (settled s (evaluated Pck k s i et)).stretched ≡ stretched_at k (nat_abs s.start) s.kind et
unfolding settled refused_oriented
settled_word k s i et h = go (evaluated Pck k s i et) refl h
  where
    go : (e : Result Valued Refusal) → evaluated Pck k s i et ≡ e → (settled s e).outcome ≡ Ok tt → (settled s e).stretched ≡ stretched_at k (nat_abs s.start) s.kind et
    go (Err r) e t = no_turn r t
    go (Ok v) e t = fin (finite_state v.state) t
      where
        fin : (b : Bool) → (cond b (oriented_of (Ok tt) s.frame v.state v.stretched) (refused_oriented NotFinite)).outcome ≡ Ok tt
            → (cond b (oriented_of (Ok tt) s.frame v.state v.stretched) (refused_oriented NotFinite)).stretched ≡ stretched_at k (nat_abs s.start) s.kind et
        fin true t = ap (λ (x : Valued). x.stretched) (answered_value Pck k s i et v e)
        fin false t = no_turn NotFinite t

settled_no : (s : Segment) (e : Result Valued Refusal) (r : Refusal) → (settled s e).outcome ≡ Err r → (settled s e).stretched ≡ false
unfolding settled refused_oriented
settled_no s (Err x) r h = refl
settled_no s (Ok v) r h = go (finite_state v.state) h
  where
    go : (b : Bool) → (cond b (oriented_of (Ok tt) s.frame v.state v.stretched) (refused_oriented NotFinite)).outcome ≡ Err r
        → (cond b (oriented_of (Ok tt) s.frame v.state v.stretched) (refused_oriented NotFinite)).stretched ≡ false
    go true h = no_turn r (sym h)
    go false h = refl

module _ (limit : ℕ) (k : List ℕ) (segs : List Segment) (n : ℕ) (q : Question) where
  tests : Bool → Bool → Option ℕ → Oriented
  tests a b c = first_of (case a TableUnfit ∷ case b EpochNan ∷ []) refused_oriented (oriented_by k segs q c)

  pub word_turned : (oriented limit k segs n q).outcome ≡ Ok tt → (i : ℕ) × (chosen segs n q ≡ Some i) × ((oriented limit k segs n q).stretched ≡ word_of k segs i q.et)
  unfolding oriented refused_oriented tests
  word_turned h = go (ltb limit n) (is_nan q.et) (chosen segs n q) refl h
    where
      go : (a b : Bool) (c : Option ℕ) → chosen segs n q ≡ c → (tests a b c).outcome ≡ Ok tt → (i : ℕ) × (chosen segs n q ≡ Some i) × ((tests a b c).stretched ≡ word_of k segs i q.et)
      go true b c e t = no_turn TableUnfit t
      go false true c e t = no_turn EpochNan t
      go false false (Some i) e t = (i, e, settled_word k (seg segs i) i q.et t)
      go false false None e t = no_turn (no_coverage q) t

  pub word_refused : (r : Refusal) → RefusedBy limit k segs n q r → (oriented limit k segs n q).stretched ≡ false
  unfolding oriented refused_oriented tests
  word_refused r h = go (ltb limit n) (is_nan q.et) (chosen segs n q) h
    where
      go : (a b : Bool) (c : Option ℕ) → (tests a b c).outcome ≡ Err r → (tests a b c).stretched ≡ false
      go true b c t = refl
      go false true c t = refl
      go false false (Some i) t = settled_no (seg segs i) (evaluated Pck k (seg segs i) i q.et) r t
      go false false None t = refl

module _ (limit : ℕ) (k : List ℕ) (segs : List Segment) (n i : ℕ) (et : Float) where
  alone : Bool → Bool → Bool → Oriented
  alone a b d = first_of (case a TableUnfit ∷ case b EpochNan ∷ case d NoSegment ∷ []) refused_oriented (settled (seg segs i) (evaluated Pck k (seg segs i) i et))

  pub word_alone : (alone_oriented limit k segs n i et).outcome ≡ Ok tt → (alone_oriented limit k segs n i et).stretched ≡ word_of k segs i et
  unfolding alone_with refused_oriented alone
  word_alone h = go (ltb limit n) (is_nan et) (leb n i) h
    where
      go : (a b d : Bool) → (alone a b d).outcome ≡ Ok tt → (alone a b d).stretched ≡ word_of k segs i et
      go true b d t = no_turn TableUnfit t
      go false true d t = no_turn EpochNan t
      go false false true t = no_turn NoSegment t
      go false false false t = settled_word k (seg segs i) i et t

  pub alone_refused : (r : Refusal) → AloneBy limit k segs n i et r → (alone_oriented limit k segs n i et).stretched ≡ false
  unfolding alone_with refused_oriented alone
  alone_refused r h = go (ltb limit n) (is_nan et) (leb n i) h
    where
      go : (a b d : Bool) → (alone a b d).outcome ≡ Err r → (alone a b d).stretched ≡ false
      go true b d t = refl
      go false true d t = refl
      go false false true t = refl
      go false false false t = settled_no (seg segs i) (evaluated Pck k (seg segs i) i et) r t
