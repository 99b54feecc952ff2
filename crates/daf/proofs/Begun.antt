-- What an accepted opening says of the kernel, and exactly when refusals 1 to 8 are given. Assumes nothing.
use Rattle.std.proofs.Common.{Result, Ok, Err}
use Prim.Native.Nat.{ℕ, ◌≤◌, ◌<◌}
use mathlib.Core.Path.{◌≡◌, refl, sym, ap, ◌∙◌, subst}
use mathlib.Core.Bool.{false, true≢false}
use mathlib.Core.List.{List, [], ◌∷◌, map}
use native.Mathlib.Omega.{arith}
use borrow.Author.Tests.{ltb-false}
use lib.ListN.{length}
use Rattle.refusal.specs.declared.Refusal.{Refusal}
use Rattle.refusal.specs.Numbers.{number_of}
use Rattle.refusal.specs.Order.{Case, First, given}
use Rattle.refusal.proofs.Exactly.{given_where, given_only, answered}
use Rattle.daf.specs.FileRecord.{fward}
use Rattle.daf.specs.Walk.{Walk, Records, PastEnd, Twice, Endless, walk, records_in, is_past_end, is_twice}
use Rattle.daf.specs.Summaries.{any_over25, total, places}
use Rattle.daf.specs.Opening.{cases, daf_of, opening, records_of}
use Rattle.daf.specs.Steps.{along, Sound}
use Rattle.daf.specs.declared.Family.{Family}
use Rattle.daf.specs.declared.Daf.{Daf}
use Rattle.daf.proofs.SecondTime.{never_endless, walk_accepted}
use Rattle.daf.proofs.Cursors.{length_places}

one_refusal : (r s : Refusal) → ◌≡◌ {A = Result Daf Refusal} (Err r) (Err s) → r ≡ s
one_refusal r s e = cc

no_refusal : (d : Daf) (r : Refusal) → ◌≡◌ {A = Result Daf Refusal} (Ok d) (Err r) → ⊥
no_refusal d r e = let z : ◌≡◌ {A = ℕ} 0 1 = cc in omega arith

module _ (f : Family) (limit : ℕ) (k : List ℕ) where
  -- **exactly-when**, refusals 1 to 8: case i gives its refusal where it holds and no earlier case does ..
  pub refused_where : (i : ℕ) → First (cases f limit k) i → opening f limit k ≡ Err (given (cases f limit k) i)
  unfolding opening
  refused_where i h = given_where Err (Ok (daf_of k (fward k))) (cases f limit k) i h

  -- .. and only there
  pub refused_only : (i : ℕ) → i < 8 → opening f limit k ≡ Err (given (cases f limit k) i) → First (cases f limit k) i
  unfolding opening
  refused_only i l e = given_only Err (Ok (daf_of k (fward k))) one_refusal (no_refusal (daf_of k (fward k))) (cases f limit k) i tt l e

  -- the cases have the numbers of RULES, "Refusals", in the order of "Opening"
  pub numbered : map (λ (c : Case). number_of c.gives) (cases f limit k) ≡ 1 ∷ 2 ∷ 3 ∷ 4 ∷ 5 ∷ 6 ∷ 7 ∷ 8 ∷ []
  numbered = refl

  -- an accepted opening: its records stand in the kernel, no count is over 25, and its summaries are those of the definition
  pub record Begun (d : Daf) : Type 0 where
    pub sound : Sound k d.first d.records
    pub are : records_of k ≡ along k d.first d.records
    pub none_over : any_over25 k (records_of k) ≡ false
    pub count : d.summaries ≡ length (places k (records_of k))
    pub few : d.summaries ≤ limit

  accepted_walk : (w : Walk) → walk k (fward k) ≡ w → is_past_end w ≡ false → is_twice w ≡ false → (rs : List ℕ) × (walk k (fward k) ≡ Records rs)
  accepted_walk (Records rs) e p t = (rs, e)
  accepted_walk PastEnd e p t = absurd (true≢false p)
  accepted_walk Twice e p t = absurd (true≢false t)
  accepted_walk Endless e p t = absurd (never_endless k (fward k) e)

  pub begun : (d : Daf) → opening f limit k ≡ Ok d → Begun d
  unfolding opening
  begun d e =
      let a = answered Err (Ok (daf_of k (fward k))) one_refusal (no_refusal (daf_of k (fward k))) (cases f limit k) (Ok d) e (no_refusal d) in
      let n = a.0.1.1.1.1 in
      let w = accepted_walk (walk k (fward k)) refl n.0 n.1.0 in
      let rs : records_of k ≡ w.0 = ap records_in w.1 in
      let ok = walk_accepted k (fward k) w.0 w.1 in
      let same : daf_of k (fward k) ≡ d = cc in
      subst Begun same (record {
        sound = subst (λ (l : List ℕ). Sound k (fward k) (length l)) (sym rs) ok.sound;
        are = rs ∙ ok.are ∙ ap (λ (l : List ℕ). along k (fward k) (length l)) (sym rs);
        none_over = n.1.1.0;
        count = sym (length_places k (records_of k));
        few = ltb-false limit (total k (records_of k)) n.1.1.1.0;
      })
