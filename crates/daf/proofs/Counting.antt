-- Laws of the counts of a walk that was accepted, and of the opening after the file record. Assumes nothing.
use Rattle.std.proofs.Common.{Ok, Err}
use Prim.Native.Nat.{ℕ, zero, suc, ◌+◌, ◌*◌, ◌/◌, ◌≤◌, ◌<◌}
use mathlib.Core.Path.{◌≡◌, refl, sym, ap, ◌∙◌, subst}
use mathlib.Core.Bool.{Bool, true, false, ◌||◌}
use mathlib.Core.List.{List, [], ◌∷◌}
use native.Mathlib.Omega.{arith}
use borrow.Author.Tests.{lt-ltb, le-ltb, eqb-true, eqb-false}
use lib.Dec.{eqb, ltb}
use lib.ListN.{length}
use Rattle.bits.proofs.Tests.{by_test_lem, or_left}
use Rattle.refusal.specs.declared.Refusal.{Refusal}
use Rattle.refusal.specs.declared.Refusal.TheVariants.{CountOver25, TooManySummaries}
use Rattle.daf.specs.Walk.{Walk, Records, PastEnd, Twice, Endless, next_of, count_of, past_end, walk}
use Rattle.daf.specs.Summaries.{any_over25, total}
use Rattle.daf.specs.Steps.{walked_of, along, Sound, counted_of, walk_opened}
use Rattle.daf.proofs.Walking.{counting, counting_end, counting_past, counting_full, counting_on}
use Rattle.daf.proofs.SecondTime.{walk_twice, never_endless, walk_accepted}

module _ (k : List ℕ) where
  -- ---- one record of those along NEXT
  module _ (r left l next : ℕ) (e : left ≡ suc l) (q : next ≡ next_of k r) where
    pub along_more : along k r left ≡ r ∷ along k next l
    unfolding along
    along_more = ap (along k r) e ∙ ap (λ (x : ℕ). r ∷ along k x l) (sym q)

    pub over_yes : 25 < count_of k r → any_over25 k (along k r left) ≡ true
    unfolding any_over25
    over_yes h = ap (any_over25 k) along_more ∙ or_left (ltb 25 (count_of k r)) _ (lt-ltb 25 (count_of k r) h)

    pub over_no : count_of k r ≤ 25 → any_over25 k (along k r left) ≡ any_over25 k (along k next l)
    unfolding any_over25
    over_no h = ap (any_over25 k) along_more ∙ ap (λ (b : Bool). b || any_over25 k (along k next l)) (le-ltb 25 (count_of k r) h)

    pub total_more : total k (along k r left) ≡ count_of k r + total k (along k next l)
    unfolding total
    total_more = ap (total k) along_more

    pub sound_next : Sound k r left → Sound k next l
    unfolding Sound
    sound_next s = subst (λ (x : ℕ). Sound k x l) (sym q) (subst (Sound k r) e s).2

  pub sound_here : (r left l : ℕ) → left ≡ suc l → Sound k r left → (1 ≤ r) × (1024 * (r + 1) ≤ length k)
  unfolding Sound
  sound_here r left l e s = let h = subst (Sound k r) e s in (h.0, h.1)

  pub along_none : (r left : ℕ) → left ≡ 0 → along k r left ≡ []
  unfolding along
  along_none r left e = ap (along k r) e

  pub over_none : (r left : ℕ) → left ≡ 0 → any_over25 k (along k r left) ≡ false
  unfolding any_over25
  over_none r left e = ap (any_over25 k) (along_none r left e)

  pub total_none : (r left : ℕ) → left ≡ 0 → total k (along k r left) ≡ 0
  unfolding total
  total_none r left e = ap (total k) (along_none r left e)

  -- ---- what the counts result in
  module _ (first n limit : ℕ) where
    pub counted_over : any_over25 k (along k first n) ≡ true → counted_of k first n limit ≡ Err CountOver25
    unfolding counted_of
    counted_over h = rw h

    pub counted_many : any_over25 k (along k first n) ≡ false → limit < total k (along k first n) → counted_of k first n limit ≡ Err TooManySummaries
    unfolding counted_of
    counted_many h t = rw (h, lt-ltb limit (total k (along k first n)) t)

    pub counted_fine : (sum : ℕ) → any_over25 k (along k first n) ≡ false → total k (along k first n) ≡ sum → sum ≤ limit
        → counted_of k first n limit ≡ Ok (record { first = first; records = n; summaries = sum })
    unfolding counted_of
    counted_fine sum h t m = rw (h, t, le-ltb limit sum m)

  -- ---- the walk that went before
  module _ (limit first : ℕ) where
    -- it was refused
    pub stopped : (x : Refusal) (w : Walk) → walk k first ≡ w → walked_of w ≡ Err x → walk_opened limit k first ≡ Err x
    unfolding walk_opened
    stopped x (Records rs) e h = let z : ◌≡◌ {A = ℕ} 0 1 = cc in absurd (omega arith)
    stopped x PastEnd e h = rw e (ap Err (cc))
    stopped x Twice e h = rw e (ap Err (cc))
    stopped x Endless e h = absurd (never_endless k first e)

    -- it was accepted
    pub record Went (n : ℕ) : Type 0 where
      pub rs : List ℕ
      pub walked : walk k first ≡ Records rs
      pub are : rs ≡ along k first n
      pub count : length rs ≡ n
      pub sound : Sound k first n
      pub few : 1024 * n ≤ length k

    bounded : (n left r m : ℕ) → counting k n left r ≡ Ok m → m ≤ n + left
    bounded n zero r m h =
        by_test_lem (eqb r 0) (λ z. let e = counting_end k n 0 r (eqb-true r 0 z) in let q : n ≡ m = cc in omega arith)
        (λ z. by_test_lem (past_end k r) (λ p. let e = counting_past k n 0 r (eqb-false r 0 z) p in let q : ◌≡◌ {A = ℕ} 0 1 = cc in omega arith)
        (λ p. let e = counting_full k n 0 r refl (eqb-false r 0 z) p in let q : ◌≡◌ {A = ℕ} 0 1 = cc in omega arith))
    bounded n (suc left) r m h =
        by_test_lem (eqb r 0) (λ z. let e = counting_end k n (suc left) r (eqb-true r 0 z) in let q : n ≡ m = cc in omega arith)
        (λ z. by_test_lem (past_end k r) (λ p. let e = counting_past k n (suc left) r (eqb-false r 0 z) p in let q : ◌≡◌ {A = ℕ} 0 1 = cc in omega arith)
        (λ p. let b = bounded (suc n) left (next_of k r) m (sym (counting_on k n (suc left) left r refl (eqb-false r 0 z) p) ∙ h) in omega arith))

    pub went : (n : ℕ) (w : Walk) → walk k first ≡ w → walked_of w ≡ Ok n → Went n
    went n (Records rs) e h =
        let l : length rs ≡ n = cc in
        let a = walk_accepted k first rs e in
        let b : n ≤ 0 + length k / 1024 = bounded 0 (length k / 1024) first n (walk_twice k first ∙ ap walked_of e ∙ h) in
        record {
          rs = rs;
          walked = e;
          are = a.are ∙ ap (along k first) l;
          count = l;
          sound = subst (Sound k first) l a.sound;
          few = omega arith;
        }
    went n PastEnd e h = let z : ◌≡◌ {A = ℕ} 0 1 = cc in absurd (omega arith)
    went n Twice e h = let z : ◌≡◌ {A = ℕ} 0 1 = cc in absurd (omega arith)
    went n Endless e h = let z : ◌≡◌ {A = ℕ} 0 1 = cc in absurd (omega arith)

    -- what follows is the count of its records
    pub counted_next : (n : ℕ) → Went n → counted_of k first n limit ≡ walk_opened limit k first
    unfolding walk_opened counted_of
    counted_next n g = rw (g.walked, g.count, g.are)
