-- Rust's `<=` on floats is transitive: no NaN passes either comparison, and the rest is the order of signed fractions.
-- Assumes nothing.
use mathlib.Core.Path.{◌≡◌, refl, sym, ap, ◌∙◌, subst}
use mathlib.Core.Bool.{Bool, true, false, ◌&&◌, ◌||◌}
use Prim.Native.Nat.{ℕ, zero, suc, ◌+◌, ◌*◌, ◌≤◌, ◌<◌}
use native.Mathlib.Nat.{le_trans as nat-le-trans, le_of_eq, mul_right_comm, mul-le-mul_right, le_of_mul-le-mul_right, zero-mul, mul-pos, zero-lt-suc, lt_irrefl, eq-or-lt_of_le}
use native.Mathlib.Omega.{arith}
use mathlib.Core.Logic.{inl, inr}
use lib.Dec.{T, eqb, ltb, ltb→lt, lt→ltb, eqb→eq, eqb_refl}
use lib.Ieee.{Float, nan, inf, fin, up, down, below, level, lt, le}
use lib.Ieee.Fits.{down_pos}

-- a test that passed, as a type and as an equation
pub as_T : {b : Bool} → b ≡ true → T b
as_T e = subst T (sym e) tt

pub as_eq : (b : Bool) → T b → b ≡ true
as_eq true t = refl
as_eq false t = absurd t

-- ---- ±a ≤ ±b, as the two tests have it and as a fact
abbrev leqb : Bool → ℕ → Bool → ℕ → Bool
leqb s a t b = below s a t b || level s a t b

abbrev Leq : Bool → ℕ → Bool → ℕ → Type 0
Leq false a false b = a ≤ b
Leq false a true b = (a ≡ 0) × (b ≡ 0)
Leq true a false b = Unit {0}
Leq true a true b = b ≤ a

or_cases : (p q : Bool) {X : Type 0} → (T p → X) → (T q → X) → T (p || q) → X
or_cases true q f g t = f tt
or_cases false q f g t = g t

or_left : (p q : Bool) → T p → T (p || q)
or_left true q t = tt
or_left false q t = absurd t

or_right : (p q : Bool) → T q → T (p || q)
or_right true q t = tt
or_right false q t = t

and_first : (p q : Bool) → T (p && q) → T p
and_first true q t = tt
and_first false q t = t

and_second : (p q : Bool) → T (p && q) → T q
and_second true q t = t
and_second false q t = absurd t

and_both : (p q : Bool) → T p → T q → T (p && q)
and_both true q a b = b
and_both false q a b = a

lt_or_eq : (a b : ℕ) → T (ltb a b || (eqb a b && true)) → a ≤ b
lt_or_eq a b =
    or_cases (ltb a b) (eqb a b && true) (λ t. let h = ltb→lt a b t in omega arith)
    (λ t. let h = eqb→eq a b (and_first (eqb a b) true t) in omega arith)

eq_test : (a b : ℕ) → a ≡ b → T (eqb a b)
eq_test a b e = subst (λ (x : ℕ). T (eqb a x)) e (eqb_refl a)

le_test : (a b : ℕ) → a ≤ b → T (ltb a b || (eqb a b && true))
le_test a b h = elim (eq-or-lt_of_le h) [ inl e ↦ or_right (ltb a b) (eqb a b && true) (and_both (eqb a b) true (eq_test a b e) tt) | inr l ↦ or_left (ltb a b) (eqb a b && true) (lt→ltb a b l) ]

test→Leq : (s : Bool) (a : ℕ) (t : Bool) (b : ℕ) → T (leqb s a t b) → Leq s a t b
test→Leq false a false b h = lt_or_eq a b h
test→Leq false a true b h =
    let z = eqb→eq a 0 (and_second (eqb a b) (eqb a 0) h) in
    let e = eqb→eq a b (and_first (eqb a b) (eqb a 0) h) in
    (z, sym e ∙ z)
test→Leq true a false b h = tt
test→Leq true a true b h =
    or_cases (ltb b a) (eqb a b && true) (λ t. let l = ltb→lt b a t in omega arith)
    (λ t. let e = eqb→eq a b (and_first (eqb a b) true t) in omega arith) h

Leq→test : (s : Bool) (a : ℕ) (t : Bool) (b : ℕ) → Leq s a t b → T (leqb s a t b)
Leq→test false a false b h = le_test a b h
Leq→test false a true b h = and_both (eqb a b) (eqb a 0) (eq_test a b (h.0 ∙ sym h.1)) (eq_test a 0 h.0)
Leq→test true zero false zero h = or_right (ltb 0 (0 + 0)) (eqb 0 0 && eqb 0 0) tt
Leq→test true zero false (suc b) h = or_left (ltb 0 (0 + suc b)) _ (lt→ltb 0 (0 + suc b) (omega arith))
Leq→test true (suc a) false b h = or_left (ltb 0 (suc a + b)) _ (lt→ltb 0 (suc a + b) (omega arith))
Leq→test true a true b h =
    elim (eq-or-lt_of_le h) [ inl e ↦ or_right (ltb b a) (eqb a b && true) (and_both (eqb a b) true (eq_test a b (sym e)) tt) | inr l ↦ or_left (ltb b a) (eqb a b && true) (lt→ltb b a l) ]

-- ---- fractions x / dx, y / dy, z / dz
cross : (x y z dx dy dz : ℕ) → 0 < dy → x * dy ≤ y * dx → y * dz ≤ z * dy → x * dz ≤ z * dx
cross x y z dx dy dz D p q =
    le_of_mul-le-mul_right
    (nat-le-trans (le_of_eq (mul_right_comm x dz dy))
    (nat-le-trans (mul-le-mul_right dz p)
    (nat-le-trans (le_of_eq (mul_right_comm y dx dz))
    (nat-le-trans (mul-le-mul_right dx q) (le_of_eq (mul_right_comm z dy dx)))))) D

numerator : (x d : ℕ) → 0 < d → x * d ≡ 0 → x ≡ 0
numerator zero d D e = refl
numerator (suc x) d D e = absurd (lt_irrefl 0 (subst (λ (k : ℕ). 0 < k) e (mul-pos (zero-lt-suc x) D)))

nothing : (x d : ℕ) → x ≡ 0 → x * d ≡ 0
nothing x d e = ap (λ (k : ℕ). k * d) e ∙ zero-mul d

fractions : (s t u : Bool) (x y z dx dy dz : ℕ) → 0 < dx → 0 < dy → 0 < dz
    → Leq s (x * dy) t (y * dx) → Leq t (y * dz) u (z * dy) → Leq s (x * dz) u (z * dx)
fractions false false false x y z dx dy dz X Y Z p q = cross x y z dx dy dz Y p q
fractions false false true x y z dx dy dz X Y Z p q =
    let y0 = nothing y dx (numerator y dz Z q.0) in
    (nothing x dz (numerator x dy Y (omega arith)), nothing z dx (numerator z dy Y q.1))
fractions false true false x y z dx dy dz X Y Z p q = let e = nothing x dz (numerator x dy Y p.0) in omega arith
fractions false true true x y z dx dy dz X Y Z p q =
    let y0 = nothing y dz (numerator y dx X p.1) in
    (nothing x dz (numerator x dy Y p.0), nothing z dx (numerator z dy Y (omega arith)))
fractions true false false x y z dx dy dz X Y Z p q = tt
fractions true false true x y z dx dy dz X Y Z p q = let e = nothing z dx (numerator z dy Y q.1) in omega arith
fractions true true false x y z dx dy dz X Y Z p q = tt
fractions true true true x y z dx dy dz X Y Z p q = cross z y x dz dy dx Y q p

-- ---- floats
trans_T : (x y z : Float) → T (le x y) → T (le y z) → T (le x z)
unfolding le
trans_T nan y z p q = absurd p
trans_T (inf s) nan z p q = absurd p
trans_T (inf s) (inf t) nan p q = absurd q
trans_T (inf true) (inf t) (inf true) p q = tt
trans_T (inf true) (inf t) (inf false) p q = tt
trans_T (inf false) (inf true) (inf u) p q = absurd p
trans_T (inf false) (inf false) (inf u) p q = q
trans_T (inf true) (inf t) (fin u n d) p q = tt
trans_T (inf false) (inf true) (fin u n d) p q = absurd p
trans_T (inf false) (inf false) (fin u n d) p q = q
trans_T (inf s) (fin t n d) nan p q = absurd q
trans_T (inf true) (fin t n d) (inf true) p q = tt
trans_T (inf true) (fin t n d) (inf false) p q = tt
trans_T (inf false) (fin t n d) (inf u) p q = absurd p
trans_T (inf true) (fin t n d) (fin u m e) p q = tt
trans_T (inf false) (fin t n d) (fin u m e) p q = absurd p
trans_T (fin s m e) nan z p q = absurd p
trans_T (fin s m e) (inf t) nan p q = absurd q
trans_T (fin s m e) (inf true) (inf u) p q = absurd p
trans_T (fin s m e) (inf false) (inf true) p q = absurd q
trans_T (fin s m e) (inf false) (inf false) p q = tt
trans_T (fin s m e) (inf true) (fin u k c) p q = absurd p
trans_T (fin s m e) (inf false) (fin u k c) p q = absurd q
trans_T (fin s m e) (fin t n d) nan p q = absurd q
trans_T (fin s m e) (fin t n d) (inf u) p q = q
trans_T (fin s m e) (fin t n d) (fin u k c) p q =
    Leq→test s (m * up e * down c) u (k * up c * down e)
    (fractions s t u (m * up e) (n * up d) (k * up c) (down e) (down d) (down c) (down_pos e) (down_pos d) (down_pos c)
    (test→Leq s (m * up e * down d) t (n * up d * down e) p)
    (test→Leq t (n * up d * down c) u (k * up c * down d) q))

pub le_trans : (x y z : Float) → le x y ≡ true → le y z ≡ true → le x z ≡ true
le_trans x y z p q = as_eq (le x z) (trans_T x y z (as_T p) (as_T q))

-- what is below is at most
pub le_of_lt : (x y : Float) → lt x y ≡ true → le x y ≡ true
unfolding le
le_of_lt x y p = rw p

pub lt_le_trans : (x y z : Float) → lt x y ≡ true → le y z ≡ true → le x z ≡ true
lt_le_trans x y z p q = le_trans x y z (le_of_lt x y p) q
