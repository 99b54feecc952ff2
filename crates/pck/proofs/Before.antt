-- AS BEFORE: outcome, reference frame and angles of an orientation and of a segment alone are those of the definitions from before it said whether a
-- record was stretched (`Before` in `specs`). Assumes nothing.
use Prim.Native.Nat.{ℕ}
use mathlib.Core.Path.{◌≡◌, refl, ap, ◌∙◌}
use mathlib.Core.Bool.{Bool, true, false, cond}
use mathlib.Core.List.{List, [], ◌∷◌}
use lib.Dec.{ltb, leb}
use lib.Ieee.{Float, is_nan}
use Rattle.refusal.specs.declared.Refusal.{Refusal}
use Rattle.refusal.specs.declared.Refusal.TheVariants.{TableUnfit, EpochNan, NoSegment, NotFinite}
use Rattle.refusal.specs.Order.{case, first_of}
use Rattle.frame.specs.State.{finite_state}
use Rattle.daf.specs.declared.Family.TheVariants.{Pck}
use Rattle.segment.specs.declared.Segment.{Segment}
use Rattle.std.proofs.Common.{Result, Ok, Err}
use Rattle.segment.specs.declared.Valued.{Valued}
use Rattle.segment.specs.Evaluating.{evaluated}
use Rattle.segment.specs.Before.{old_evaluated, bare_evaluated}
use Rattle.segment.proofs.Before.{evaluated_as_before}
use Rattle.std.proofs.Common.{Option, Some, None}
use Rattle.table.specs.Segments.{seg}
use Rattle.pck.specs.declared.Question.{Question}
use Rattle.std.specs.Prelude.{Ok}
use Rattle.pck.specs.Orienting.{oriented_of, refused_oriented, settled, chosen, no_coverage, oriented_by, oriented}
use Rattle.pck.specs.Alone.{alone_with, alone_oriented}
use Rattle.pck.specs.Before.{old_refused, old_settled, old_by, old_oriented, old_alone, bare_oriented}

refused_as : (r : Refusal) → bare_oriented (refused_oriented r) ≡ old_refused r
unfolding refused_oriented
refused_as r = refl

settled_as : (s : Segment) (e : Result Valued Refusal) → bare_oriented (settled s e) ≡ old_settled s (bare_evaluated e)
unfolding settled
settled_as s (Err r) = refused_as r
settled_as s (Ok v) = go (finite_state v.state)
  where
    go : (b : Bool) → bare_oriented (cond b (oriented_of (Ok tt) s.frame v.state v.stretched) (refused_oriented NotFinite))
        ≡ cond b (record { outcome = Ok tt; frame = s.frame; angles = v.state }) (old_refused NotFinite)
    go true = refl
    go false = refused_as NotFinite

-- one segment
one_as : (k : List ℕ) (s : Segment) (i : ℕ) (et : Float) → bare_oriented (settled s (evaluated Pck k s i et)) ≡ old_settled s (old_evaluated Pck k s i et)
one_as k s i et = settled_as s (evaluated Pck k s i et) ∙ ap (old_settled s) (evaluated_as_before Pck k s i et)

pub oriented_as_before : (limit : ℕ) (k : List ℕ) (segs : List Segment) (n : ℕ) (q : Question) → bare_oriented (oriented limit k segs n q) ≡ old_oriented limit k segs n q
unfolding oriented
oriented_as_before limit k segs n q = go (ltb limit n) (is_nan q.et) (chosen segs n q)
  where
    go : (a b : Bool) (c : Option ℕ) → bare_oriented (first_of (case a TableUnfit ∷ case b EpochNan ∷ []) refused_oriented (oriented_by k segs q c))
        ≡ first_of (case a TableUnfit ∷ case b EpochNan ∷ []) old_refused (old_by k segs q c)
    go true b c = refused_as TableUnfit
    go false true c = refused_as EpochNan
    go false false (Some i) = one_as k (seg segs i) i q.et
    go false false None = refused_as (no_coverage q)

pub alone_as_before : (limit : ℕ) (k : List ℕ) (segs : List Segment) (n i : ℕ) (et : Float) → bare_oriented (alone_oriented limit k segs n i et) ≡ old_alone limit k segs n i et
unfolding alone_with
alone_as_before limit k segs n i et = go (ltb limit n) (is_nan et) (leb n i)
  where
    go : (a b d : Bool)
        → bare_oriented (first_of (case a TableUnfit ∷ case b EpochNan ∷ case d NoSegment ∷ []) refused_oriented (settled (seg segs i) (evaluated Pck k (seg segs i) i et)))
        ≡ first_of (case a TableUnfit ∷ case b EpochNan ∷ case d NoSegment ∷ []) old_refused (old_settled (seg segs i) (old_evaluated Pck k (seg segs i) i et))
    go true b d = refused_as TableUnfit
    go false true d = refused_as EpochNan
    go false false true = refused_as NoSegment
    go false false false = one_as k (seg segs i) i et
