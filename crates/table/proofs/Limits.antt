-- Laws of the limit of a table of so many places: they, and 4,096 at most. Assumes nothing.
use mathlib.Core.Path.{◌≡◌, refl, sym, ap}
use mathlib.Core.Bool.{Bool, true, false, cond}
use Prim.Native.Nat.{ℕ, zero, ◌≤◌, ◌<◌, zero-le}
use native.Mathlib.Omega.{arith}
use lib.Dec.{ltb}
use Rattle.std.specs.Prelude.{min}
use borrow.Author.Tests.{lt-ltb, le-ltb, ltb-true, ltb-false}
use Rattle.table.specs.Places.{lent_limit, limit_of}
use Rattle.table.specs.Steps.{counted}
use Rattle.daf.specs.Summaries.{places}

pub limit_most : (places : ℕ) → (limit_of places ≤ places) × (limit_of places ≤ lent_limit)
limit_most places = go (ltb lent_limit places) refl
  where
    go : (b : Bool) → ltb lent_limit places ≡ b → (cond b lent_limit places ≤ places) × (cond b lent_limit places ≤ lent_limit)
    go true e = (omega (arith, ltb-true lent_limit places e), omega arith)
    go false e = (omega arith, ltb-false lent_limit places e)

pub limit_min : (places : ℕ) → min places lent_limit ≡ limit_of places
limit_min places = go (ltb lent_limit places) refl
  where
    go : (b : Bool) → ltb lent_limit places ≡ b → min places lent_limit ≡ cond b lent_limit places
    go true e = omega (arith, ltb-true lent_limit places e)
    go false e = omega (arith, ltb-false lent_limit places e)

module _ (places n : ℕ) where
  pub limit_over : lent_limit < n → limit_of places < n
  limit_over h = go (ltb lent_limit places) refl
    where
      go : (b : Bool) → ltb lent_limit places ≡ b → cond b lent_limit places < n
      go true e = h
      go false e = omega (arith, ltb-false lent_limit places e)

  pub limit_short : places < n → limit_of places < n
  limit_short h = go (ltb lent_limit places) refl
    where
      go : (b : Bool) → ltb lent_limit places ≡ b → cond b lent_limit places < n
      go true e = omega (arith, ltb-true lent_limit places e)
      go false e = h

  pub limit_fits : n ≤ lent_limit → n ≤ places → n ≤ limit_of places
  limit_fits h l = go (ltb lent_limit places)
    where
      go : (b : Bool) → n ≤ cond b lent_limit places
      go true = h
      go false = l

  pub limit_told : n ≤ limit_of places → (n ≤ places) × (n ≤ lent_limit)
  limit_told h = go (ltb lent_limit places) refl h
    where
      go : (b : Bool) → ltb lent_limit places ≡ b → n ≤ cond b lent_limit places → (n ≤ places) × (n ≤ lent_limit)
      go true e l = (omega (arith, ltb-true lent_limit places e), l)
      go false e l = (l, omega (arith, ltb-false lent_limit places e))

-- ---- how many segments there are
module _ (limit n : ℕ) where
  pub counted_over : limit < n → zero ≡ counted limit n
  unfolding counted
  counted_over h = sym (ap (λ (b : Bool). cond b zero n) (lt-ltb limit n h))

  pub counted_all : n ≤ limit → n ≡ counted limit n
  unfolding counted
  counted_all h = sym (ap (λ (b : Bool). cond b zero n) (le-ltb limit n h))

  pub counted_most : counted limit n ≤ limit
  unfolding counted
  counted_most = go (ltb limit n) refl
    where
      go : (b : Bool) → ltb limit n ≡ b → cond b zero n ≤ limit
      go true e = zero-le
      go false e = ltb-false limit n e
