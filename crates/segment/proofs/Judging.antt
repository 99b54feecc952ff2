-- What a summary results in, by what the tests of its segment find. Assumes nothing.
use Prim.Native.Nat.{ℕ}
use mathlib.Core.Path.{◌≡◌, refl, ap}
use mathlib.Core.Bool.{Bool, true, false, cond}
use mathlib.Core.List.{List}
use native.Mathlib.Omega.{arith}
use Rattle.daf.specs.declared.Family.{Family}
use Rattle.daf.specs.declared.Summary.{Summary}
use Rattle.segment.specs.Kinds.{kind_of}
use Rattle.segment.specs.Malformed.{malformed, found, segment_with, judged}
use Rattle.segment.specs.declared.Kind.{Kind}
use Rattle.std.proofs.Common.{Option, Some, None}
use Rattle.segment.specs.declared.Segment.{Segment}

-- the tests fail
fails : (m : Bool) (k : Kind) (a : Option Segment) → cond m None (Some k) ≡ None → None ≡ cond m None a
fails true k a e = refl
fails false k a e = let z : ◌≡◌ {A = ℕ} 0 1 = cc in absurd (omega arith)

-- they find a kind
makes : (m : Bool) (k kind : Kind) (s : Summary) → cond m None (Some k) ≡ Some kind
    → Some (segment_with s kind) ≡ cond m None (Some (segment_with s k))
makes true k kind s e = let z : ◌≡◌ {A = ℕ} 0 1 = cc in absurd (omega arith)
makes false k kind s e = let q : kind ≡ k = cc in ap (λ (x : Kind). Some (segment_with s x)) q

module _ (f : Family) (k : List ℕ) (s : Summary) (none kind : Kind) where
  pub judged_malformed : found f k (segment_with s none) ≡ None → None ≡ judged f k s
  unfolding found judged
  judged_malformed e = fails (malformed f k s.first s.last s.data_type s.start s.end) (kind_of f k s.data_type s.end) _ e

  pub judged_accepted : found f k (segment_with s none) ≡ Some kind → Some (segment_with s kind) ≡ judged f k s
  unfolding found judged
  judged_accepted e = makes (malformed f k s.first s.last s.data_type s.start s.end) (kind_of f k s.data_type s.end) kind s e
