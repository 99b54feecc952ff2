-- Exactly when a segment is refused: 9 at the opening, and 12, 14, 13 and 16 at an evaluation, 16 never. Assumes nothing.
use Prim.Native.Nat.{ℕ, zero, suc, ◌<◌}
use mathlib.Core.Path.{◌≡◌, refl, sym, ap, ◌∙◌}
use mathlib.Core.Bool.{Bool, true, false, cond, true≢false}
use mathlib.Core.List.{List, [], ◌∷◌, map}
use mathlib.Core.Logic.{◌↔◌}
use native.Mathlib.Omega.{arith}
use lib.IntN.{nat_abs}
use lib.Ieee.{Float}
use borrow.Author.Tests.{ne_eqb}
use Rattle.refusal.specs.declared.Refusal.{Refusal}
use Rattle.refusal.specs.declared.Refusal.TheVariants.{Unsupported as TypeUnsupported, TableUnfit, ZeroRadius, EmptyWindow}
use Rattle.refusal.specs.Numbers.{number_of}
use Rattle.refusal.specs.Order.{Case, First, None, given}
use Rattle.refusal.proofs.Exactly.{given_where, given_only, given_some, answer_where, answer_only, answered}
use Rattle.daf.specs.declared.Family.{Family}
use Rattle.daf.specs.declared.Summary.{Summary}
use Rattle.interp.specs.Window.{window_size}
use Rattle.interp.proofs.Window.{size_some}
use Rattle.segment.specs.Malformed.{malformed, segment_of, judged}
use Rattle.segment.specs.Evaluating.{unsupported, unfit, zero_radius, empty_window, value_at, cases, evaluated}
use Rattle.segment.specs.Steps.{Sound}
use Rattle.segment.specs.declared.Kind.{Kind}
use Rattle.segment.specs.declared.Kind.TheVariants.{Unsupported, Type2, Type3, Type9, Type13}
use Rattle.segment.specs.declared.Segment.{Segment}
use Rattle.std.proofs.Common.{Some, None as Malformed, Result, Ok, Err}
use Rattle.segment.specs.declared.Valued.{Valued}
use Rattle.segment.proofs.Fit.{fitting}

-- ---- 9

malformed_only : (m : Bool) (s : Segment) → cond m Malformed (Some s) ≡ Malformed → m ≡ true
malformed_only true s e = refl
malformed_only false s e = let z : ◌≡◌ {A = ℕ} 0 1 = cc in absurd (omega arith)

-- **exactly-when**, 9: a summary is malformed where one of the tests holds, and only there.
pub exactly_9 : (f : Family) (k : List ℕ) (s : Summary)
    → (malformed f k s.first s.last s.data_type s.start s.end ≡ true) ↔ (judged f k s ≡ Malformed)
unfolding judged
exactly_9 f k s = (λ e. rw e, λ e. malformed_only (malformed f k s.first s.last s.data_type s.start s.end) (segment_of f k s) e)

-- ---- 12, 14, 13, 16

one_refusal : (r s : Refusal) → ◌≡◌ {A = Result Valued Refusal} (Err r) (Err s) → r ≡ s
one_refusal r s e = cc

one_value : (x v : Valued) → ◌≡◌ {A = Result Valued Refusal} (Ok x) (Ok v) → v ≡ x
one_value x v e = cc

no_refusal : (x : Valued) (r : Refusal) → ◌≡◌ {A = Result Valued Refusal} (Ok x) (Err r) → ⊥
no_refusal x r e = let z : ◌≡◌ {A = ℕ} 0 1 = cc in omega arith

module _ (f : Family) (k : List ℕ) (s : Segment) (i : ℕ) (et : Float) where
  -- **exactly-when**: case j gives its refusal where it holds and no earlier case does ..
  pub refused_where : (j : ℕ) → First (cases f k s i et) j → evaluated f k s i et ≡ Err (given (cases f k s i et) j)
  unfolding evaluated
  refused_where j h = given_where Err _ (cases f k s i et) j h

  -- .. and only there ..
  pub refused_only : (j : ℕ) → j < 4 → evaluated f k s i et ≡ Err (given (cases f k s i et) j) → First (cases f k s i et) j
  unfolding evaluated
  refused_only j l e = given_only Err _ one_refusal (no_refusal _) (cases f k s i et) j tt l e

  -- .. and no other refusal is ever given.
  pub refused_by_lem : (r : Refusal) → evaluated f k s i et ≡ Err r → (j : ℕ) × First (cases f k s i et) j × (r ≡ given (cases f k s i et) j)
  unfolding evaluated
  refused_by_lem r e = let g = given_some Err _ one_refusal (no_refusal _) (cases f k s i et) r e in (g.0, g.2, g.3)

  -- the cases have the numbers of RULES, "Refusals", in the order of "Evaluating a segment"
  pub numbered : map (λ (c : Case). number_of c.gives) (cases f k s i et) ≡ 12 ∷ 14 ∷ 13 ∷ 16 ∷ []
  numbered = refl

  -- where no case holds there is the state with its word, and only there
  pub answered_where : None (cases f k s i et) → evaluated f k s i et ≡ Ok (value_at k (nat_abs s.start) s.kind et)
  unfolding evaluated
  answered_where n = answer_where Err _ (cases f k s i et) n

  pub answered_only : evaluated f k s i et ≡ Ok (value_at k (nat_abs s.start) s.kind et) → None (cases f k s i et)
  unfolding evaluated
  answered_only e = answer_only Err _ one_refusal (no_refusal _) (cases f k s i et) e

  -- a value is the definition's: its state, and whether a record was stretched
  pub answered_value : (v : Valued) → evaluated f k s i et ≡ Ok v → v ≡ value_at k (nat_abs s.start) s.kind et
  unfolding evaluated
  answered_value v e = one_value _ v (answered Err _ one_refusal (no_refusal _) (cases f k s i et) (Ok v) e (λ r h. no_refusal v r h)).1

  -- the same, a number at a time
  pub exactly_12 : (unsupported s.kind ≡ true) ↔ (evaluated f k s i et ≡ Err (TypeUnsupported s.data_type))
  exactly_12 = (λ h. refused_where 0 h, λ e. refused_only 0 (omega arith) e)

  pub exactly_14 : (unsupported s.kind ≡ false) × (unfit f k s ≡ true) ↔ (evaluated f k s i et ≡ Err TableUnfit)
  exactly_14 = (λ h. refused_where 1 h, λ e. refused_only 1 (omega arith) e)

  pub exactly_13 : (unsupported s.kind ≡ false) × ((unfit f k s ≡ false) × (zero_radius k (nat_abs s.start) s.kind et ≡ true)) ↔ (evaluated f k s i et ≡ Err (ZeroRadius i))
  exactly_13 = (λ h. refused_where 2 h, λ e. refused_only 2 (omega arith) e)

-- ---- 16 never occurs

-- a kind that the tests let pass has a record, so a window has one
window_some : (k : List ℕ) (a : ℕ) (kind : Kind) → Sound k a kind → empty_window kind ≡ false
unfolding empty_window
window_some k a Unsupported h = absurd h
window_some k a (Type2 init intlen rsize n) h = refl
window_some k a (Type3 init intlen rsize n) h = refl
window_some k a (Type9 d n) h = let w = size_some d n h.some in ne_eqb (window_size d n) 0 (λ q. omega arith)
window_some k a (Type13 d n) h = let w = size_some d n h.some in ne_eqb (window_size d n) 0 (λ q. omega arith)

-- No window is empty, in an opened table or a forged one.
pub never_16 : (f : Family) (k : List ℕ) (s : Segment) (i : ℕ) (et : Float) (j : ℕ) → evaluated f k s i et ≡ Err (EmptyWindow j) → ⊥
never_16 f k s i et j e = go (refused_by_lem f k s i et (EmptyWindow j) e)
  where
    go : (n : ℕ) × First (cases f k s i et) n × (EmptyWindow j ≡ given (cases f k s i et) n) → ⊥
    go (zero, h, q) = let z : ◌≡◌ {A = ℕ} 16 12 = ap number_of q in omega arith
    go (suc zero, h, q) = let z : ◌≡◌ {A = ℕ} 16 14 = ap number_of q in omega arith
    go (suc (suc zero), h, q) = let z : ◌≡◌ {A = ℕ} 16 13 = ap number_of q in omega arith
    go (suc (suc (suc zero)), h, q) =
        true≢false (sym h.1.1.1 ∙ window_some k (nat_abs s.start) s.kind (fitting f k s h.0 h.1.0).1)
    go (suc (suc (suc (suc n))), h, q) = h.1.1.1.1
