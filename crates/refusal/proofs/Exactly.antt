-- Exactly when a refusal is given: where its case holds and no earlier one does; and there is an answer exactly where no case holds.
-- Assumes nothing.
use Prim.Native.Nat.{ℕ, zero, suc, ◌<◌}
use mathlib.Core.Path.{◌≡◌, refl, sym, ap, ◌∙◌, subst}
use mathlib.Core.Bool.{Bool, true, false, cond, not, ◌&&◌}
use mathlib.Core.Logic.{◌⊎◌, inl, inr}
use mathlib.Core.List.{List, [], ◌∷◌, ◌++◌}
use native.Mathlib.Omega.{arith}
use lib.Dec.{T, eqb, eqb_refl}
use lib.ListN.{length}
use Rattle.refusal.specs.declared.Refusal.{Refusal}
use Rattle.refusal.specs.Numbers.{number_of}
use Rattle.refusal.specs.Order.{Case, first_of, First, None, given, without, apart}

and_left : (a b : Bool) → T (a && b) → T a
and_left true b t = tt
and_left false b t = t

and_right : (a b : Bool) → T (a && b) → T b
and_right true b t = t
and_right false b t = absurd t

-- a test holds or it does not
pub by_test_lem : {X : Type 0} (b : Bool) → (b ≡ true → X) → (b ≡ false → X) → X
by_test_lem true f g = f refl
by_test_lem false f g = g refl

not_both : (b : Bool) → T b → T (not b) → ⊥
not_both true t u = u
not_both false t u = t

-- a list without a number does not give a refusal of that number
differs : (n : ℕ) (cs : List Case) (i : ℕ) → T (without n cs) → i < length cs → number_of (given cs i) ≡ n → ⊥
differs n [] i w l e = omega arith
differs n (c ∷ cs) zero w l e =
    not_both (eqb n (number_of c.gives)) (subst (λ (k : ℕ). T (eqb n k)) (sym e) (eqb_refl n))
    (and_left (not (eqb n (number_of c.gives))) (without n cs) w)
differs n (c ∷ cs) (suc i) w l e =
    differs n cs i (and_right (not (eqb n (number_of c.gives))) (without n cs) w) (omega arith) e

-- an order of tests in two parts
pub first_append : {A : Type 0} (cs ds : List Case) (refused : Refusal → A) (answer : A)
    → first_of (cs ++ ds) refused answer ≡ first_of cs refused (first_of ds refused answer)
first_append [] ds refused answer = refl
first_append (c ∷ cs) ds refused answer = ap (cond c.holds (refused c.gives)) (first_append cs ds refused answer)

-- what is made of an outcome is made of its refusals and its answer
pub first_through : {A B : Type 0} (cs : List Case) (refused : Refusal → A) (answer : A) (f : A → B)
    → first_of cs (λ r. f (refused r)) (f answer) ≡ f (first_of cs refused answer)
first_through [] refused answer f = refl
first_through (c ∷ cs) refused answer f =
    by_test_lem c.holds (λ q. rw q) (λ q. rw q (first_through cs refused answer f))

-- two outcomes of one order of tests: both refuse, and with the same refusal, or both answer
module _ {A B : Type 0} (refused : Refusal → A) (answer : A) (refused' : Refusal → B) (answer' : B) where
  abbrev pub Alike : A → B → Type 0
  Alike x y = ((r : Refusal) × (x ≡ refused r) × (y ≡ refused' r)) ⊎ ((x ≡ answer) × (y ≡ answer'))

  by_one : (c : Case) (b : Bool) (x : A) (y : B) → Alike x y → Alike (cond b (refused c.gives) x) (cond b (refused' c.gives) y)
  by_one c true x y a = inl (c.gives, refl, refl)
  by_one c false x y a = a

  pub first_two : (cs : List Case) → Alike (first_of cs refused answer) (first_of cs refused' answer')
  first_two [] = inr (refl, refl)
  first_two (c ∷ cs) = by_one c c.holds (first_of cs refused answer) (first_of cs refused' answer') (first_two cs)

module _ {A : Type 0} (refused : Refusal → A) (answer : A) where
  -- one case, by its test
  turn : (c : Case) (cs : List Case) (b : Bool) → c.holds ≡ b
      → first_of (c ∷ cs) refused answer ≡ cond b (refused c.gives) (first_of cs refused answer)
  turn c cs b q = ap (λ (t : Bool). cond t (refused c.gives) (first_of cs refused answer)) q

  -- where case i is the first that holds, its refusal is given
  pub given_where : (cs : List Case) (i : ℕ) → First cs i → first_of cs refused answer ≡ refused (given cs i)
  given_where [] i f = absurd f
  given_where (c ∷ cs) zero f = turn c cs true f
  given_where (c ∷ cs) (suc i) f = turn c cs false f.0 ∙ given_where cs i f.1

  -- where no case holds there is the answer
  pub answer_where : (cs : List Case) → None cs → first_of cs refused answer ≡ answer
  answer_where [] n = refl
  answer_where (c ∷ cs) n = turn c cs false n.0 ∙ answer_where cs n.1

module _ {A : Type 0} (refused : Refusal → A) (answer : A) (one : (r s : Refusal) → refused r ≡ refused s → r ≡ s) (other : (r : Refusal) → answer ≡ refused r → ⊥) where
  -- cases of other numbers do not give a refusal
  never : (r : Refusal) (cs : List Case) → T (without (number_of r) cs) → first_of cs refused answer ≡ refused r → ⊥
  never r [] w h = other r h
  never r (d ∷ ds) w h =
      by_test_lem d.holds
      (λ q. differs (number_of r) (d ∷ ds) 0 w (omega arith) (ap number_of (one d.gives r (sym (turn refused answer d ds true q) ∙ h))))
      (λ q. never r ds (and_right (not (eqb (number_of r) (number_of d.gives))) (without (number_of r) ds) w) (sym (turn refused answer d ds false q) ∙ h))

  -- its refusal is given only where case i is the first that holds
  pub given_only : (cs : List Case) (i : ℕ) → T (apart cs) → i < length cs → first_of cs refused answer ≡ refused (given cs i) → First cs i
  given_only [] i a l e = omega arith
  given_only (c ∷ cs) zero a l e =
      by_test_lem c.holds (λ q. q)
      (λ q. absurd (never c.gives cs (and_left (without (number_of c.gives) cs) (apart cs) a) (sym (turn refused answer c cs false q) ∙ e)))
  given_only (c ∷ cs) (suc i) a l e =
      by_test_lem c.holds
      (λ q. absurd (differs (number_of c.gives) cs i (and_left (without (number_of c.gives) cs) (apart cs) a) (omega arith)
      (ap number_of (sym (one c.gives (given cs i) (sym (turn refused answer c cs true q) ∙ e))))))
      (λ q. (q, given_only cs i (and_right (without (number_of c.gives) cs) (apart cs) a) (omega arith) (sym (turn refused answer c cs false q) ∙ e)))

  -- a refusal is that of a case, the first that holds
  pub given_some : (cs : List Case) (r : Refusal) → first_of cs refused answer ≡ refused r → (i : ℕ) × (i < length cs) × First cs i × (r ≡ given cs i)
  given_some [] r e = absurd (other r e)
  given_some (c ∷ cs) r e =
      by_test_lem c.holds (λ q. (0, omega arith, q, one r c.gives (sym e ∙ turn refused answer c cs true q)))
      (λ q. let rest = given_some cs r (sym (turn refused answer c cs false q) ∙ e) in (suc rest.0, further rest.1, (q, rest.2), rest.3))
    where
      further : {i : ℕ} → i < length cs → suc i < suc (length cs)
      further l = omega arith

  -- there is the answer only where no case holds
  pub answer_only : (cs : List Case) → first_of cs refused answer ≡ answer → None cs
  answer_only [] e = tt
  answer_only (c ∷ cs) e =
      by_test_lem c.holds (λ q. absurd (other c.gives (sym e ∙ turn refused answer c cs true q))) (λ q. (q, answer_only cs (sym (turn refused answer c cs false q) ∙ e)))

  -- what is no refusal is the answer, and then no case holds
  pub answered : (cs : List Case) (x : A) → first_of cs refused answer ≡ x → ((r : Refusal) → x ≡ refused r → ⊥) → None cs × (answer ≡ x)
  answered [] x e n = (tt, e)
  answered (c ∷ cs) x e n =
      by_test_lem c.holds (λ q. absurd (n c.gives (sym e ∙ turn refused answer c cs true q)))
      (λ q. let rest = answered cs x (sym (turn refused answer c cs false q) ∙ e) n in ((q, rest.0), rest.1))
