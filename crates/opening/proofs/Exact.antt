-- Exactly when an opening gives refusals 1 to 9, and what an accepted one says of the table. Assumes nothing.
use Rattle.std.proofs.Common.{Result, Ok, Err}
use Prim.Native.Nat.{ℕ, zero, suc, ◌≤◌, ◌<◌}
use mathlib.Core.Path.{◌≡◌, refl, sym, ap, ◌∙◌}
use mathlib.Core.Logic.{⊎_elim}
use mathlib.Core.List.{List, [], ◌∷◌, map}
use native.Mathlib.Omega.{arith}
use lib.ListN.{length}
use Rattle.refusal.specs.declared.Refusal.{Refusal}
use Rattle.refusal.specs.Numbers.{number_of}
use Rattle.refusal.specs.Order.{Case, First, None, given}
use Rattle.refusal.proofs.Exactly.{given_where, given_only, given_some, answered, first_two}
use Rattle.daf.specs.declared.Family.{Family}
use Rattle.table.specs.declared.Table.{Table}
use Rattle.table.specs.Places.{table_limit}
use Rattle.opening.specs.Opening.{places_of, segments_of, table_of, marked_for, refused_opening, accepted_opening, open_cases, opened}
use Rattle.segment.specs.declared.Segment.{Segment}
use Rattle.opening.specs.Lent as lent
use Rattle.opening.specs.Lent.{filled_with, marked_list, table_after}
use Rattle.opening.proofs.Planned.{none_answer}
use Rattle.opening.specs.declared.Opened.{Opened}

-- case i of an opening has number i + 1
case_number : (f : Family) (limit : ℕ) (k : List ℕ) (i : ℕ) → i < 9 → number_of (given (open_cases f limit k) i) ≡ suc i
case_number f limit k zero l = refl
case_number f limit k (suc zero) l = refl
case_number f limit k (suc (suc zero)) l = refl
case_number f limit k (suc (suc (suc zero))) l = refl
case_number f limit k (suc (suc (suc (suc zero)))) l = refl
case_number f limit k (suc (suc (suc (suc (suc zero))))) l = refl
case_number f limit k (suc (suc (suc (suc (suc (suc zero)))))) l = refl
case_number f limit k (suc (suc (suc (suc (suc (suc (suc zero))))))) l = refl
case_number f limit k (suc (suc (suc (suc (suc (suc (suc (suc zero)))))))) l = refl
case_number f limit k (suc (suc (suc (suc (suc (suc (suc (suc (suc i))))))))) l = absurd (let x = l in omega arith)

from_1_to_9 : (f : Family) (limit : ℕ) (k : List ℕ) (r : Refusal) (i : ℕ) → i < 9 → r ≡ given (open_cases f limit k) i → (1 ≤ number_of r) × (number_of r ≤ 9)
from_1_to_9 f limit k r i l e = let n = ap number_of e ∙ case_number f limit k i l in (omega arith, omega arith)

pub one_refusal : (r s : Refusal) → refused_opening r ≡ refused_opening s → r ≡ s
one_refusal r s e = let o : ◌≡◌ {A = Result (Unit {0}) Refusal} (Err r) (Err s) = ap (λ (x : Opened). x.outcome) e in cc

pub no_refusal : (t : Table) (r : Refusal) → accepted_opening t ≡ refused_opening r → ⊥
no_refusal t r e =
    let o : ◌≡◌ {A = Result (Unit {0}) Refusal} (Ok tt) (Err r) = ap (λ (x : Opened). x.outcome) e in
    let z : ◌≡◌ {A = ℕ} 0 1 = cc in omega arith

module _ (f : Family) (k : List ℕ) where
  -- the table of an accepted opening
  abbrev pub table_read : Table
  table_read = marked_for f (table_of (segments_of f k))

  -- **exactly-when**, refusals 1 to 9: case i gives its refusal where it holds and no earlier case does ..
  pub refused_where : (i : ℕ) → First (open_cases f table_limit k) i → opened f k ≡ refused_opening (given (open_cases f table_limit k) i)
  unfolding opened
  refused_where i h = given_where refused_opening (accepted_opening table_read) (open_cases f table_limit k) i h

  -- .. and only there
  pub refused_only : (i : ℕ) → i < 9 → opened f k ≡ refused_opening (given (open_cases f table_limit k) i) → First (open_cases f table_limit k) i
  unfolding opened
  refused_only i l e = given_only refused_opening (accepted_opening table_read) one_refusal (no_refusal table_read) (open_cases f table_limit k) i tt l e

  -- .. and nothing else: no number but 1 to 9 is given
  pub opened_numbers : (r : Refusal) → opened f k ≡ refused_opening r → (1 ≤ number_of r) × (number_of r ≤ 9)
  unfolding opened
  opened_numbers r e =
      let g = given_some refused_opening (accepted_opening table_read) one_refusal (no_refusal table_read) (open_cases f table_limit k) r e in
      from_1_to_9 f table_limit k r g.0 g.1 g.3

  -- the cases have the numbers of RULES, "Refusals", in the order of "Opening"
  pub numbered : map (λ (c : Case). number_of c.gives) (open_cases f table_limit k) ≡ 1 ∷ 2 ∷ 3 ∷ 4 ∷ 5 ∷ 6 ∷ 7 ∷ 8 ∷ 9 ∷ []
  numbered = refl

  -- where an opening is accepted, no case holds and the table is the one of the definition
  pub accepted : (t : Table) → opened f k ≡ accepted_opening t → None (open_cases f table_limit k) × (table_read ≡ t)
  unfolding opened
  accepted t e =
      let a = answered refused_opening (accepted_opening table_read) one_refusal (no_refusal table_read) (open_cases f table_limit k) (accepted_opening t) e (no_refusal t) in
      (a.0, ap (λ (x : Opened). x.table) a.1)

-- ---- the same of an opening into a lent table, with any limit
one_found : (r s : Refusal) → ◌≡◌ {A = Result ℕ Refusal} (Err r) (Err s) → r ≡ s
one_found r s e = cc

no_found : (n : ℕ) (r : Refusal) → ◌≡◌ {A = Result ℕ Refusal} (Ok n) (Err r) → ⊥
no_found n r e = let z : ◌≡◌ {A = ℕ} 0 1 = cc in omega arith

module _ (f : Family) (limit : ℕ) (k : List ℕ) where
  pub found_where : (i : ℕ) → First (open_cases f limit k) i → lent.found f limit k ≡ Err (given (open_cases f limit k) i)
  unfolding lent.found
  found_where i h = given_where Err (Ok (length (places_of k))) (open_cases f limit k) i h

  pub found_only : (i : ℕ) → i < 9 → lent.found f limit k ≡ Err (given (open_cases f limit k) i) → First (open_cases f limit k) i
  unfolding lent.found
  found_only i l e = given_only Err (Ok (length (places_of k))) one_found (no_found (length (places_of k))) (open_cases f limit k) i tt l e

  pub found_some : (r : Refusal) → lent.found f limit k ≡ Err r → (i : ℕ) × (i < 9) × First (open_cases f limit k) i × (r ≡ given (open_cases f limit k) i)
  unfolding lent.found
  found_some r e = given_some Err (Ok (length (places_of k))) one_found (no_found (length (places_of k))) (open_cases f limit k) r e

  -- no number but 1 to 9 is given
  pub found_numbers : (r : Refusal) → lent.found f limit k ≡ Err r → (1 ≤ number_of r) × (number_of r ≤ 9)
  found_numbers r e = let g = found_some r e in from_1_to_9 f limit k r g.0 g.1 g.3

  pub found_numbered : map (λ (c : Case). number_of c.gives) (open_cases f limit k) ≡ 1 ∷ 2 ∷ 3 ∷ 4 ∷ 5 ∷ 6 ∷ 7 ∷ 8 ∷ 9 ∷ []
  found_numbered = refl

  -- where it is accepted, no case holds, the count is that of the summaries, and the table is filled and marked
  pub found_accepted : (n : ℕ) → lent.found f limit k ≡ Ok n → None (open_cases f limit k) × (length (places_of k) ≡ n)
  unfolding lent.found
  found_accepted n e =
      let a = answered Err (Ok (length (places_of k))) one_found (no_found (length (places_of k))) (open_cases f limit k) (Ok n) e (no_found n) in
      let q : ◌≡◌ {A = Result ℕ Refusal} (Ok (length (places_of k))) (Ok n) = a.1 in
      (a.0, cc)

  pub table_accepted : (segs : List Segment) → None (open_cases f limit k) → table_after f limit k segs ≡ marked_list f (length (places_of k)) (filled_with (segments_of f k) segs)
  unfolding table_after
  table_accepted segs none = none_answer (open_cases f limit k) (λ r. segs) (marked_list f (length (places_of k)) (filled_with (segments_of f k) segs)) none

  -- refused: the table is as it was
  pub table_refused : (segs : List Segment) (r : Refusal) → lent.found f limit k ≡ Err r → table_after f limit k segs ≡ segs
  unfolding lent.found table_after
  table_refused segs r e =
      let n = length (places_of k) in
      ⊎_elim (λ both. both.2) (λ both. absurd (no_found n r (sym both.0 ∙ e)))
      (first_two Err (Ok n) (λ r. segs) (marked_list f n (filled_with (segments_of f k) segs)) (open_cases f limit k))
