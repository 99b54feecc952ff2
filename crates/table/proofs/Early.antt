-- Laws of the tests before any segment: what they give, and what it says where they give nothing. Assumes nothing.
use mathlib.Core.Path.{◌≡◌, refl, sym, ap, ap₂}
use mathlib.Core.Bool.{Bool, true, false}
use mathlib.Core.List.{List, [], ◌∷◌}
use mathlib.Core.Logic.{◌⊎◌, inl, inr}
use Prim.Native.Nat.{ℕ, ◌≤◌, ◌<◌}
use lib.Dec.{ltb}
use lib.Ieee.{Float, is_nan}
use borrow.Author.Tests.{lt-ltb, le-ltb, ltb-false}
use Rattle.refusal.specs.declared.Refusal.{Refusal}
use Rattle.refusal.specs.declared.Refusal.TheVariants.{TableUnfit, EpochNan}
use Rattle.refusal.specs.Order.{Case, case, first_of}
use Rattle.std.proofs.Common.{Result, Ok, Err}
use Rattle.table.specs.Steps.{ready}

abbrev Ready : Type 0
Ready = Result (Unit {0}) Refusal

-- the refusal handed on, else what comes after
abbrev pub unless : {A : Type 0} → Ready → (Refusal → A) → A → A
unless (Err r) refused answer = refused r
unless (Ok t) refused answer = answer

module _ (limit n : ℕ) (et : Float) where
  -- what the two tests give
  tests : Bool → Bool → Ready
  tests a b = first_of (case a TableUnfit ∷ case b EpochNan ∷ []) Err (Ok tt)

  pub ready_over : limit < n → Err TableUnfit ≡ ready limit n et
  unfolding ready tests
  ready_over l = sym (ap (λ (a : Bool). tests a (is_nan et)) (lt-ltb limit n l))

  pub ready_nan : n ≤ limit → is_nan et ≡ true → Err EpochNan ≡ ready limit n et
  unfolding ready tests
  ready_nan l d = sym (ap₂ tests (le-ltb limit n l) d)

  pub ready_yes : n ≤ limit → is_nan et ≡ false → Ok tt ≡ ready limit n et
  unfolding ready tests
  ready_yes l d = sym (ap₂ tests (le-ltb limit n l) d)

  -- where they give nothing
  pub ready_fits : (t : Unit {0}) → ready limit n et ≡ Ok t → n ≤ limit
  unfolding ready tests
  ready_fits t = go (ltb limit n) (is_nan et) refl
    where
      go : (a b : Bool) → ltb limit n ≡ a → tests a b ≡ Ok t → n ≤ limit
      go true b e h = let z : ◌≡◌ {A = Ready} (Err TableUnfit) (Ok t) = h in cc
      go false b e h = ltb-false limit n e

  -- no other refusal than the two
  pub ready_why : (r : Refusal) → ready limit n et ≡ Err r → (r ≡ TableUnfit) ⊎ (r ≡ EpochNan)
  unfolding ready tests
  ready_why r = go (ltb limit n) (is_nan et)
    where
      go : (a b : Bool) → tests a b ≡ Err r → (r ≡ TableUnfit) ⊎ (r ≡ EpochNan)
      go true b h = inl (cc)
      go false true h = inr (cc)
      go false false h = let z : ◌≡◌ {A = Ready} (Ok tt) (Err r) = h in cc

  -- an order that begins with these tests: theirs first, then the others
  pub first_ready : {A : Type 0} (more : List Case) (refused : Refusal → A) (answer : A)
      → unless (ready limit n et) refused (first_of more refused answer) ≡ first_of (case (ltb limit n) TableUnfit ∷ case (is_nan et) EpochNan ∷ more) refused answer
  unfolding ready tests
  first_ready {A} more refused answer = go (ltb limit n) (is_nan et)
    where
      go : (a b : Bool) → unless (tests a b) refused (first_of more refused answer)
          ≡ first_of (case a TableUnfit ∷ case b EpochNan ∷ more) refused answer
      go true b = refl
      go false true = refl
      go false false = refl
