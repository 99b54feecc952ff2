-- Two doubles are the same exactly where their bit patterns are. Assumes nothing.
use mathlib.Core.Path.{◌≡◌, refl, sym, ap, ◌∙◌, subst}
use mathlib.Core.Bool.{Bool, true, false, not, ◌&&◌, beq}
use Prim.Native.Nat.{ℕ, ◌^◌, ◌<◌}
use lib.Dec.{T, eqb, eqb→eq, eqb_refl}
use lib.IntN.{ℤ, pos, negsuc}
use lib.Ieee.{Float, nan, inf, fin, binary64, fits, is_nan, of_bits, to_bits}
use lib.Ieee.Bits.{of_bits-to_bits, to_bits-of_bits}
use lib.Ieee.Fits.{and_i, and_l, and_r}
use Rattle.bits.specs.Same.{same_z, same}
use Rattle.bits.proofs.Nan.{yes}

-- ---- `same` is equality of the data, away from a NaN

-- signs that test equal are equal
beq_eq : (s t : Bool) → T (beq s t) → s ≡ t
beq_eq true true h = refl
beq_eq true false h = absurd h
beq_eq false true h = absurd h
beq_eq false false h = refl

-- a sign tests equal to itself
beq_refl : (s : Bool) → T (beq s s)
beq_refl true = tt
beq_refl false = tt

-- integers that test equal are equal
same_z_eq : (a b : ℤ) → T (same_z a b) → a ≡ b
same_z_eq (pos a) (pos b) h = ap pos (eqb→eq a b h)
same_z_eq (pos a) (negsuc b) h = absurd h
same_z_eq (negsuc a) (pos b) h = absurd h
same_z_eq (negsuc a) (negsuc b) h = ap negsuc (eqb→eq a b h)

-- an integer tests equal to itself
same_z_refl : (a : ℤ) → T (same_z a a)
same_z_refl (pos a) = eqb_refl a
same_z_refl (negsuc a) = eqb_refl a

-- what is the same is equal
pub same_eq : (x y : Float) → T (same x y) → x ≡ y
unfolding same
same_eq nan y h = absurd h
same_eq (inf s) nan h = absurd h
same_eq (inf s) (inf t) h = ap inf (beq_eq s t h)
same_eq (inf s) (fin t n d) h = absurd h
same_eq (fin s m e) nan h = absurd h
same_eq (fin s m e) (inf t) h = absurd h
same_eq (fin s m e) (fin t n d) h =
    let k = and_r (beq s t) (eqb m n && same_z e d) h in
    let a : s ≡ t = beq_eq s t (and_l (beq s t) (eqb m n && same_z e d) h) in
    let b : m ≡ n = eqb→eq m n (and_l (eqb m n) (same_z e d) k) in
    let c : e ≡ d = same_z_eq e d (and_r (eqb m n) (same_z e d) k) in
    λ i. fin (a i) (b i) (c i)

-- what is no NaN is the same as itself
pub same_self : (x : Float) → T (not (is_nan x)) → T (same x x)
unfolding same is_nan
same_self nan h = absurd h
same_self (inf s) h = beq_refl s
same_self (fin s m e) h = and_i (beq s s) (eqb m m && same_z e e) (beq_refl s) (and_i (eqb m m) (same_z e e) (eqb_refl m) (same_z_refl e))

-- and only what is no NaN is the same as anything
pub same_number : (x y : Float) → T (same x y) → T (not (is_nan x))
unfolding same is_nan
same_number nan y h = absurd h
same_number (inf s) y h = tt
same_number (fin s m e) y h = tt

-- a NaN is the same as nothing, on the left
pub nan_left : (x y : Float) → x ≡ nan → false ≡ same x y
unfolding same
nan_left x y h = sym (ap (λ (k : Float). same k y) h)

-- and on the right
pub nan_right : (x y : Float) → y ≡ nan → false ≡ same x y
unfolding same
nan_right x y h = sym (ap (same x) h ∙ go x)
  where
    go : (k : Float) → same k nan ≡ false
    go nan = refl
    go (inf s) = refl
    go (fin s m e) = refl

-- ---- the patterns of two doubles

-- two tests that pass together are one
same_test : (a b : Bool) → (T a → T b) → (T b → T a) → a ≡ b
same_test true true p q = refl
same_test true false p q = absurd (p tt)
same_test false true p q = absurd (q tt)
same_test false false p q = refl

-- one pattern is one double
one_double : (x y : Float) → T (fits binary64 x) → T (fits binary64 y) → to_bits binary64 x ≡ to_bits binary64 y → x ≡ y
one_double x y X Y h = sym (of_bits-to_bits binary64 x X) ∙ ap (of_bits binary64) h ∙ of_bits-to_bits binary64 y Y

-- the test of two patterns is `same`
pub bits_same : (x y : Float) → T (fits binary64 x) → T (fits binary64 y) → T (not (is_nan x)) → eqb (to_bits binary64 x) (to_bits binary64 y) ≡ same x y
bits_same x y X Y n =
    same_test (eqb (to_bits binary64 x) (to_bits binary64 y)) (same x y)
    (λ h. subst (λ (k : Float). T (same x k)) (one_double x y X Y (eqb→eq (to_bits binary64 x) (to_bits binary64 y) h)) (same_self x n))
    (λ h. subst (λ (k : Float). T (eqb (to_bits binary64 x) (to_bits binary64 k))) (same_eq x y h) (eqb_refl (to_bits binary64 x)))

-- the test of a pattern b and that of x: b is read as its own double, unless as a NaN, whose patterns are not x's
pub pattern_same : (b : ℕ) (x : Float) → b < 2 ^ 64 → T (fits binary64 x) → T (not (is_nan x)) → eqb b (to_bits binary64 x) ≡ same (of_bits binary64 b) x
pattern_same b x B X n =
    same_test (eqb b (to_bits binary64 x)) (same (of_bits binary64 b) x)
    (λ h. subst (λ (k : Float). T (same k x)) (sym (ap (of_bits binary64) (eqb→eq b (to_bits binary64 x) h) ∙ of_bits-to_bits binary64 x X)) (same_self x n))
    (λ h.
    let e : of_bits binary64 b ≡ x = same_eq (of_bits binary64 b) x h in
    subst (λ (k : ℕ). T (eqb b k)) (sym (to_bits-of_bits binary64 b B (same_number (of_bits binary64 b) x h)) ∙ ap (to_bits binary64) e) (eqb_refl b))

-- a pattern that passed is read as x
pub pattern_eq : (x y : Float) → same x y ≡ true → x ≡ y
pattern_eq x y e = same_eq x y (yes e)
