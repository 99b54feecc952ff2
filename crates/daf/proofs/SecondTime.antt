-- The walk that counts its steps refuses exactly where a record is reached a second time: the kernel has no more records than that.
-- Assumes nothing.
use Rattle.std.proofs.Common.{Result, Ok, Err}
use Prim.Native.Nat.{ℕ, zero, suc, ◌+◌, ◌/◌, ◌<◌}
use mathlib.Core.Path.{◌≡◌, refl, sym, ap, ◌∙◌, subst}
use mathlib.Core.Bool.{Bool, true, false, cond, ◌||◌, true≢false}
use mathlib.Core.List.{List, [], ◌∷◌}
use native.Mathlib.Omega.{arith}
use borrow.Author.Tests.{eqb-true, eqb-false, eq-eqb, ne_eqb}
use lib.Dec.{eqb}
use lib.ListN.{length}
use Rattle.bits.proofs.Tests.{by_test_lem, or_left, or_right}
use Rattle.refusal.specs.declared.Refusal.TheVariants.{RecordPastEnd, RecordTwice}
use Rattle.daf.specs.Walk.{Walk, Records, PastEnd, Twice, Endless, next_of, past_end, among, before, walk_from, walk}
use Rattle.daf.specs.Steps.{walked_of, along, Sound}
use Rattle.daf.proofs.Pigeons.{Distinct, Below, distinct_none, distinct_more, below_none, below_more, pigeons}
use Rattle.daf.proofs.Walking.{stands, counting, counting_end, counting_past, counting_full, counting_on}
use Rattle.refusal.specs.declared.Refusal.{Refusal}

module _ (k : List ℕ) where
  -- ---- one turn of the walk
  module _ (seen : List ℕ) (turns r : ℕ) where
    turn : Bool → Bool → Bool → Walk
    turn a b c = cond a (Records []) (cond b PastEnd (cond c Twice (before r (walk_from k (r ∷ seen) turns (next_of k r)))))

    turn_is : (a b c : Bool) → eqb r 0 ≡ a → past_end k r ≡ b → among r seen ≡ c → walk_from k seen (suc turns) r ≡ turn a b c
    unfolding walk_from turn
    turn_is a b c p q s = rw (p, q, s)

    walk_end : r ≡ 0 → walk_from k seen (suc turns) r ≡ Records []
    unfolding turn
    walk_end e = turn_is true _ _ (eq-eqb r 0 e) refl refl

    walk_past : (r ≡ 0 → ⊥) → past_end k r ≡ true → walk_from k seen (suc turns) r ≡ PastEnd
    unfolding turn
    walk_past e p = turn_is false true _ (ne_eqb r 0 e) p refl

    walk_again : (r ≡ 0 → ⊥) → past_end k r ≡ false → among r seen ≡ true → walk_from k seen (suc turns) r ≡ Twice
    unfolding turn
    walk_again e p a = turn_is false false true (ne_eqb r 0 e) p a

    walk_on : (r ≡ 0 → ⊥) → past_end k r ≡ false → among r seen ≡ false
        → walk_from k seen (suc turns) r ≡ before r (walk_from k (r ∷ seen) turns (next_of k r))
    unfolding turn
    walk_on e p a = turn_is false false false (ne_eqb r 0 e) p a

  -- ---- what is known of the records seen, on the way to r
  pub record Seen (seen : List ℕ) (r : ℕ) : Type 0 where
    pub distinct : Distinct seen
    pub few : Below seen (length k / 1024)
    pub stood : (x : ℕ) → among x seen ≡ true → (x ≡ 0 → ⊥) × (past_end k x ≡ false)
    pub closed : (x : ℕ) → among x seen ≡ true → among (next_of k x) (r ∷ seen) ≡ true

  none_seen : (r : ℕ) → Seen [] r
  none_seen r = record {
    distinct = distinct_none;
    few = below_none (length k / 1024);
    stood = λ x a. absurd (true≢false (sym a));
    closed = λ x a. absurd (true≢false (sym a));
  }

  -- x is r, or among those seen
  here_or : {X : Type 0} (x r : ℕ) (seen : List ℕ) → among x (r ∷ seen) ≡ true → (x ≡ r → X) → (among x seen ≡ true → X) → X
  here_or x r seen a f g =
      by_test_lem (eqb x r) (λ t. f (eqb-true x r t)) (λ u. g (sym (ap (λ (b : Bool). b || among x seen) u) ∙ a))

  in_kernel : (r : ℕ) → past_end k r ≡ false → r < length k / 1024
  in_kernel r p = let h = stands k r p in omega arith

  -- one record more
  more_seen : (seen : List ℕ) (r : ℕ) → Seen seen r → (r ≡ 0 → ⊥) → past_end k r ≡ false → among r seen ≡ false → Seen (r ∷ seen) (next_of k r)
  more_seen seen r s e p a = record {
    distinct = distinct_more r seen a s.distinct;
    few = below_more r seen (length k / 1024) (in_kernel r p) s.few;
    stood = λ x m. here_or x r seen m (λ q. ((λ z. e (sym q ∙ z)), ap (past_end k) q ∙ p)) (λ b. s.stood x b);
    closed = λ x m.
        here_or x r seen m (λ q. or_left (eqb (next_of k x) (next_of k r)) _ (eq-eqb _ _ (ap (next_of k) q)))
        (λ b. or_right (eqb (next_of k x) (next_of k r)) _ (s.closed x b));
  }

  -- where r was seen, the walk goes round among those seen for ever, and so the count runs out
  round : (seen : List ℕ) (r : ℕ) → Seen seen r → among r seen ≡ true → (left n x : ℕ) → among x seen ≡ true → counting k n left x ≡ Err RecordTwice
  round seen r s a zero n x m = counting_full k n 0 x refl (s.stood x m).0 (s.stood x m).1
  round seen r s a (suc left) n x m =
      counting_on k n (suc left) left x refl (s.stood x m).0 (s.stood x m).1
      ∙ round seen r s a left (suc n) (next_of k x)
      (here_or (next_of k x) r seen (s.closed x m) (λ q. ap (λ (y : ℕ). among y seen) q ∙ a) (λ b. b))

  -- ---- both walks agree

  -- what a walk results in, with n records done
  lengthened : ℕ → Walk → Result ℕ Refusal
  lengthened n (Records rs) = Ok (n + length rs)
  lengthened n PastEnd = Err RecordPastEnd
  lengthened n Twice = Err RecordTwice
  lengthened n Endless = Err RecordTwice

  lengthened_before : (n r : ℕ) (w : Walk) → lengthened (suc n) w ≡ lengthened n (before r w)
  unfolding lengthened
  lengthened_before n r (Records rs) = ap Ok (omega arith)
  lengthened_before n r PastEnd = refl
  lengthened_before n r Twice = refl
  lengthened_before n r Endless = refl

  -- the three ways in which both stop
  stop : (seen : List ℕ) (r left : ℕ) → Seen seen r → {X : Type 0}
      → (counting k (length seen) left r ≡ lengthened (length seen) (walk_from k seen (suc left) r) → X)
      → ((r ≡ 0 → ⊥) → past_end k r ≡ false → among r seen ≡ false → X) → X
  unfolding lengthened
  stop seen r left s f g =
      by_test_lem (eqb r 0)
      (λ z. f (counting_end k (length seen) left r (eqb-true r 0 z) ∙ ap Ok (omega arith) ∙ sym (ap (lengthened (length seen)) (walk_end seen left r (eqb-true r 0 z)))))
      (λ n. by_test_lem (past_end k r)
      (λ p. f (counting_past k (length seen) left r (eqb-false r 0 n) p ∙ sym (ap (lengthened (length seen)) (walk_past seen left r (eqb-false r 0 n) p))))
      (λ p. by_test_lem (among r seen)
      (λ a. f (round seen r s a left (length seen) r a ∙ sym (ap (lengthened (length seen)) (walk_again seen left r (eqb-false r 0 n) p a))))
      (λ a. g (eqb-false r 0 n) p a)))

  agrees : (left : ℕ) (seen : List ℕ) (r : ℕ) → Seen seen r → counting k (length seen) left r ≡ lengthened (length seen) (walk_from k seen (suc left) r)
  unfolding lengthened walk_from
  agrees zero seen r s =
      stop seen r 0 s (λ e. e) (λ n p a. counting_full k (length seen) 0 r refl n p ∙ sym (ap (lengthened (length seen)) (walk_on seen 0 r n p a)))
  agrees (suc left) seen r s =
      stop seen r (suc left) s (λ e. e)
      (λ n p a. counting_on k (length seen) (suc left) left r refl n p
      ∙ agrees left (r ∷ seen) (next_of k r) (more_seen seen r s n p a)
      ∙ lengthened_before (length seen) r (walk_from k (r ∷ seen) (suc left) (next_of k r))
      ∙ sym (ap (lengthened (length seen)) (walk_on seen (suc left) r n p a)))

  lengthened_none : (w : Walk) → lengthened 0 w ≡ walked_of w
  unfolding lengthened
  lengthened_none (Records rs) = ap Ok (omega arith)
  lengthened_none PastEnd = refl
  lengthened_none Twice = refl
  lengthened_none Endless = refl

  -- **walk-twice**: the walk with a count of its steps is the walk that looks for a record seen before
  pub walk_twice : (first : ℕ) → counting k 0 (length k / 1024) first ≡ walked_of (walk k first)
  unfolding walk
  walk_twice first = agrees (length k / 1024) [] first (none_seen first) ∙ lengthened_none (walk_from k [] (suc (length k / 1024)) first)

  -- ---- the turns never run out

  before_endless : (r : ℕ) (w : Walk) → before r w ≡ Endless → w ≡ Endless
  before_endless r (Records rs) e = let z : ◌≡◌ {A = ℕ} 0 1 = cc in absurd (omega arith)
  before_endless r PastEnd e = let z : ◌≡◌ {A = ℕ} 0 1 = cc in absurd (omega arith)
  before_endless r Twice e = let z : ◌≡◌ {A = ℕ} 0 1 = cc in absurd (omega arith)
  before_endless r Endless e = refl

  -- one turn is not the last, where what follows it is not
  goes_on : (left : ℕ) (seen : List ℕ) (r : ℕ) → Seen seen r → (walk_from k (r ∷ seen) left (next_of k r) ≡ Endless → Seen (r ∷ seen) (next_of k r) → ⊥)
      → walk_from k seen (suc left) r ≡ Endless → ⊥
  goes_on left seen r s go h =
      by_test_lem (eqb r 0) (λ z. let e = walk_end seen left r (eqb-true r 0 z) in let q : ◌≡◌ {A = ℕ} 0 1 = cc in omega arith)
      (λ n. by_test_lem (past_end k r)
      (λ p. let e = walk_past seen left r (eqb-false r 0 n) p in let q : ◌≡◌ {A = ℕ} 0 1 = cc in omega arith)
      (λ p. by_test_lem (among r seen)
      (λ a. let e = walk_again seen left r (eqb-false r 0 n) p a in let q : ◌≡◌ {A = ℕ} 0 1 = cc in omega arith)
      (λ a. go (before_endless r _ (sym (walk_on seen left r (eqb-false r 0 n) p a) ∙ h)) (more_seen seen r s (eqb-false r 0 n) p a))))

  ends : (left : ℕ) (seen : List ℕ) (r : ℕ) → Seen seen r → length seen + left ≡ length k / 1024 → walk_from k seen (suc left) r ≡ Endless → ⊥
  ends zero seen r s l = goes_on zero seen r s (λ h m. let p = pigeons (r ∷ seen) (length k / 1024) m.distinct m.few in omega arith)
  ends (suc left) seen r s l = goes_on (suc left) seen r s (λ h m. ends left (r ∷ seen) (next_of k r) m (omega arith) h)

  pub never_endless : (first : ℕ) → walk k first ≡ Endless → ⊥
  unfolding walk
  never_endless first h = ends (length k / 1024) [] first (none_seen first) (omega arith) h

  -- ---- the records of a walk that was accepted

  before_records : (r : ℕ) (w : Walk) (rs : List ℕ) → before r w ≡ Records rs → (qs : List ℕ) × ((w ≡ Records qs) × (r ∷ qs ≡ rs))
  before_records r (Records qs) rs e = (qs, (refl, (cc)))
  before_records r PastEnd rs e = let z : ◌≡◌ {A = ℕ} 0 1 = cc in absurd (omega arith)
  before_records r Twice rs e = let z : ◌≡◌ {A = ℕ} 0 1 = cc in absurd (omega arith)
  before_records r Endless rs e = let z : ◌≡◌ {A = ℕ} 0 1 = cc in absurd (omega arith)

  -- they are those along NEXT, and each stands in the kernel
  pub record Accepted (r : ℕ) (rs : List ℕ) : Type 0 where
    pub are : rs ≡ along k r (length rs)
    pub sound : Sound k r (length rs)

  accepted_none : (r : ℕ) (rs : List ℕ) → [] ≡ rs → Accepted r rs
  unfolding along Sound
  accepted_none r [] e = record { are = refl; sound = tt }
  accepted_none r (x ∷ rs) e = let z : ◌≡◌ {A = ℕ} 0 1 = cc in absurd (omega arith)

  accepted_more : (r : ℕ) (qs rs : List ℕ) → (r ≡ 0 → ⊥) → past_end k r ≡ false → Accepted (next_of k r) qs → r ∷ qs ≡ rs → Accepted r rs
  unfolding along Sound
  accepted_more r qs rs n p a e = let h = stands k r p in subst (Accepted r) e (record { are = ap (λ (l : List ℕ). r ∷ l) a.are; sound = (omega arith, omega arith, a.sound) })

  accepted : (turns : ℕ) (seen : List ℕ) (r : ℕ) (rs : List ℕ) → walk_from k seen turns r ≡ Records rs → Accepted r rs
  unfolding walk_from
  accepted zero seen r rs h = let z : ◌≡◌ {A = ℕ} 0 1 = cc in absurd (omega arith)
  accepted (suc turns) seen r rs h =
      by_test_lem (eqb r 0) (λ z. let e = walk_end seen turns r (eqb-true r 0 z) in accepted_none r rs (cc))
      (λ n. by_test_lem (past_end k r)
      (λ p. let e = walk_past seen turns r (eqb-false r 0 n) p in let q : ◌≡◌ {A = ℕ} 0 1 = cc in absurd (omega arith))
      (λ p. by_test_lem (among r seen)
      (λ a. let e = walk_again seen turns r (eqb-false r 0 n) p a in let q : ◌≡◌ {A = ℕ} 0 1 = cc in absurd (omega arith))
      (λ a. let b = before_records r _ rs (sym (walk_on seen turns r (eqb-false r 0 n) p a) ∙ h) in
      accepted_more r b.0 rs (eqb-false r 0 n) p (accepted turns (r ∷ seen) (next_of k r) b.0 b.1.0) b.1.1)))

  pub walk_accepted : (first : ℕ) (rs : List ℕ) → walk k first ≡ Records rs → Accepted first rs
  unfolding walk
  walk_accepted first rs h = accepted (suc (length k / 1024)) [] first rs h
