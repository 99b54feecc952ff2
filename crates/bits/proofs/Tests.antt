-- Tests of the source against tests of the contracts: `&&`, and `==` of two whole numbers, which the machine compares by their bits.
-- Assumes nothing.
use mathlib.Core.Path.{◌≡◌, refl, sym, ap, ◌∙◌, subst}
use mathlib.Core.Bool.{Bool, true, false, ◌&&◌, ◌||◌, true≢false}
use lib.Dec.{eqb}
use lib.IntN.{ℤ, pos, negsuc}
use borrow.Author.Tests.{eq-eqb, ne_eqb, eqb-true}
use mir.Syntax.{w32}
use mir.Val.{SFits, of_z, to_z}
use mir.ValLaws.{to_z-of_z}
use Rattle.bits.specs.Same.{same_z}

-- a test holds or it does not
pub by_test_lem : {X : Type 0} (b : Bool) → (b ≡ true → X) → (b ≡ false → X) → X
by_test_lem true f g = f refl
by_test_lem false f g = g refl

-- the first half of an `&&` held, and so its value is the second's
pub and_yes : (a b : Bool) → a ≡ true → b ≡ (a && b)
and_yes true b e = refl
and_yes false b e = absurd (true≢false (sym e))

-- it did not, and so its value is false
pub and_no : (a b : Bool) → a ≡ false → a ≡ (a && b)
and_no true b e = absurd (true≢false e)
and_no false b e = refl

-- an `&&` that held, and its halves
pub and_first : (a b : Bool) → (a && b) ≡ true → a ≡ true
and_first true b e = refl
and_first false b e = e

pub and_second : (a b : Bool) → (a && b) ≡ true → b ≡ true
and_second true b e = e
and_second false b e = absurd (true≢false (sym e))

pub and_both : (a b : Bool) → a ≡ true → b ≡ true → (a && b) ≡ true
and_both a b p q = sym (and_yes a b p) ∙ q

-- an `||` by its halves
pub or_left : (a b : Bool) → a ≡ true → (a || b) ≡ true
or_left true b e = refl
or_left false b e = absurd (true≢false (sym e))

pub or_right : (a b : Bool) → b ≡ true → (a || b) ≡ true
or_right true b e = refl
or_right false b e = e

pub or_none : (a b : Bool) → a ≡ false → b ≡ false → (a || b) ≡ false
or_none true b e f = e
or_none false b e f = f

-- an `||` that did not hold, and its halves
pub or_first : (a b : Bool) → (a || b) ≡ false → a ≡ false
or_first true b e = e
or_first false b e = refl

pub or_second : (a b : Bool) → (a || b) ≡ false → b ≡ false
or_second true b e = absurd (true≢false e)
or_second false b e = e

-- `same_z` is equality
pub same_z_refl : (a : ℤ) → same_z a a ≡ true
same_z_refl (pos n) = eq-eqb n n refl
same_z_refl (negsuc n) = eq-eqb n n refl

pub same_z_eq : (a b : ℤ) → same_z a b ≡ true → a ≡ b
same_z_eq (pos m) (pos n) e = ap pos (eqb-true m n e)
same_z_eq (pos m) (negsuc n) e = absurd (true≢false (sym e))
same_z_eq (negsuc m) (pos n) e = absurd (true≢false (sym e))
same_z_eq (negsuc m) (negsuc n) e = ap negsuc (eqb-true m n e)

pub eq_same_z : (a b : ℤ) → a ≡ b → same_z a b ≡ true
eq_same_z a b e = subst (λ (x : ℤ). same_z a x ≡ true) e (same_z_refl a)

pub ne_same_z : (a b : ℤ) → (a ≡ b → ⊥) → same_z a b ≡ false
ne_same_z a b h = go (same_z a b) refl
  where
    go : (t : Bool) → same_z a b ≡ t → same_z a b ≡ false
    go true e = absurd (h (same_z_eq a b e))
    go false e = e

-- two 32-bit whole numbers with the same bits are the same
pub of_bits_lem : (a b : ℤ) → SFits w32 a → SFits w32 b → of_z w32 a ≡ of_z w32 b → a ≡ b
of_bits_lem a b fa fb e = sym (to_z-of_z w32 a fa) ∙ ap (to_z w32) e ∙ to_z-of_z w32 b fb

-- the machine's test is `same_z`
pub bits_same_z : (a b : ℤ) → SFits w32 a → SFits w32 b → eqb (of_z w32 a) (of_z w32 b) ≡ same_z a b
bits_same_z a b fa fb = go (same_z a b) refl
  where
    go : (t : Bool) → same_z a b ≡ t → eqb (of_z w32 a) (of_z w32 b) ≡ same_z a b
    go true e = eq-eqb (of_z w32 a) (of_z w32 b) (ap (of_z w32) (same_z_eq a b e)) ∙ sym e
    go false e = ne_eqb (of_z w32 a) (of_z w32 b) (λ q. true≢false (sym (eq_same_z a b (of_bits_lem a b fa fb q)) ∙ e)) ∙ sym e
