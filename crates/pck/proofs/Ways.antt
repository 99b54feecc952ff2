-- Laws of an orientation, one for each way through the code. Assumes nothing.
use mathlib.Core.Path.{◌≡◌, ap, ap₂, ◌∙◌}
use mathlib.Core.Bool.{Bool, true, false, cond}
use mathlib.Core.List.{List, [], ◌∷◌}
use Prim.Native.Nat.{ℕ, ◌≤◌, ◌<◌}
use lib.Ieee.{is_nan}
use borrow.Author.Tests.{lt-ltb, le-ltb}
use Rattle.refusal.specs.declared.Refusal.{Refusal}
use Rattle.refusal.specs.declared.Refusal.TheVariants.{TableUnfit, EpochNan, NotFinite}
use Rattle.refusal.specs.Order.{case, first_of}
use Rattle.frame.specs.State.{finite_state}
use Rattle.segment.specs.declared.Segment.{Segment}
use Rattle.segment.specs.declared.Valued.{Valued}
use Rattle.std.proofs.Common.{Option, Result, Ok, Err}
use Rattle.pck.specs.declared.Question.{Question}
use Rattle.std.specs.Prelude.{Ok}
use Rattle.pck.specs.declared.Oriented.{Oriented}
use Rattle.pck.specs.Orienting.{oriented_of, refused_oriented, settled, chosen, oriented_by, oriented}

module _ (s : Segment) (e : Result Valued Refusal) where
  -- the evaluation was refused
  pub settled_refused : (r : Refusal) → e ≡ Err r → settled s e ≡ refused_oriented r
  unfolding settled
  settled_refused r h = ap (settled s) h

  -- it gave six numbers, finite or not
  pub settled_state : (x : Valued) (b : Bool) → e ≡ Ok x → finite_state x.state ≡ b → settled s e ≡ cond b (oriented_of (Ok tt) s.frame x.state x.stretched) (refused_oriented NotFinite)
  unfolding settled
  settled_state x b h f = ap (settled s) h ∙ ap (λ (t : Bool). cond t (oriented_of (Ok tt) s.frame x.state x.stretched) (refused_oriented NotFinite)) f

module _ (limit : ℕ) (k : List ℕ) (segs : List Segment) (n : ℕ) (q : Question) where
  -- what the two tests give
  tests : Bool → Bool → Oriented
  tests a b = first_of (case a TableUnfit ∷ case b EpochNan ∷ []) refused_oriented (oriented_by k segs q (chosen segs n q))

  -- a count over the limit
  pub oriented_unfit : limit < n → oriented limit k segs n q ≡ refused_oriented TableUnfit
  unfolding oriented tests
  oriented_unfit l = ap (λ (a : Bool). tests a (is_nan q.et)) (lt-ltb limit n l)

  -- an epoch that is NaN
  pub oriented_nan : n ≤ limit → is_nan q.et ≡ true → oriented limit k segs n q ≡ refused_oriented EpochNan
  unfolding oriented tests
  oriented_nan l d = ap₂ tests (le-ltb limit n l) d

  -- the choice
  pub oriented_by_lem : (c : Option ℕ) → chosen segs n q ≡ c → n ≤ limit → is_nan q.et ≡ false → oriented limit k segs n q ≡ oriented_by k segs q c
  unfolding oriented tests
  oriented_by_lem c e l d = ap₂ tests (le-ltb limit n l) d ∙ ap (oriented_by k segs q) e
