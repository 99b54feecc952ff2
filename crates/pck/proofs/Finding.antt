-- Laws of the definitions of `Finding`, one for each way through the code, and that what is found so is what `Orienting` defines. Assumes nothing.
use mathlib.Core.Path.{◌≡◌, refl, sym, ap, ◌∙◌}
use mathlib.Core.List.{List, [], ◌∷◌}
use Prim.Native.Nat.{ℕ, ◌≤◌}
use lib.Dec.{ltb}
use lib.Ieee.{is_nan}
use Rattle.refusal.specs.declared.Refusal.{Refusal}
use Rattle.refusal.specs.declared.Refusal.TheVariants.{TableUnfit, EpochNan}
use Rattle.refusal.specs.Order.{case, first_of}
use Rattle.segment.specs.declared.Segment.{Segment}
use Rattle.std.proofs.Common.{Option, Some, None, unwrap_or, Result, Ok, Err}
use Rattle.std.specs.Option.{option_map}
use Rattle.std.specs.Result.{result_err}
use Rattle.table.specs.Choosing.{last_in}
use Rattle.table.proofs.Last.{last_chosen}
use Rattle.pck.specs.declared.Question.{Question}
use Rattle.pck.specs.declared.Oriented.{Oriented}
use Rattle.pck.specs.Orienting.{refused_oriented, oriented_by, oriented}
use Rattle.table.specs.Steps.{ready, seg_or, Within}
use Rattle.table.proofs.Early.{unless, ready_fits, first_ready}
use Rattle.pck.specs.Steps.{body_hits, early, turned_by, oriented_with}
use Rattle.table.proofs.Choices.{or_at, within_chosen}

module _ (segs : List Segment) (q : Question) where
  pub body_within : (n : ℕ) → Within n (last_in (body_hits q) segs n)
  body_within n = within_chosen segs n (body_hits q) (last_in (body_hits q) segs n) (last_chosen (body_hits q) segs n)

module _ (limit n : ℕ) (q : Question) where
  -- no test before the choice decides: what they say
  pub late_fits : early limit n q ≡ None → n ≤ limit
  unfolding early
  late_fits = go (ready limit n q.et) refl
    where
      go : (r : Result (Unit {0}) Refusal) → ready limit n q.et ≡ r → option_map refused_oriented (result_err r) ≡ None → n ≤ limit
      go (Err r) e h = let z : ◌≡◌ {A = Option Oriented} (Some (refused_oriented r)) None = h in cc
      go (Ok t) e h = ready_fits limit n q.et t e

module _ (limit : ℕ) (k : List ℕ) (n : ℕ) (q : Question) (c : Option ℕ) (s : Segment) where
  -- the answer of the tests, else that of the choice
  early_or : unwrap_or (early limit n q) (turned_by k q c s) ≡ oriented_with limit k n q c s
  unfolding early oriented_with
  early_or = go (ready limit n q.et) ∙ first_ready limit n q.et [] refused_oriented (turned_by k q c s)
    where
      go : (r : Result (Unit {0}) Refusal) → unwrap_or (option_map refused_oriented (result_err r)) (turned_by k q c s) ≡ unless r refused_oriented (turned_by k q c s)
      go (Err r) = refl
      go (Ok t) = refl

  with_early : (a : Oriented) → early limit n q ≡ Some a → a ≡ oriented_with limit k n q c s
  with_early a e = sym (ap (λ (o : Option Oriented). unwrap_or o (turned_by k q c s)) e) ∙ early_or

  with_late : early limit n q ≡ None → turned_by k q c s ≡ oriented_with limit k n q c s
  with_late e = sym (ap (λ (o : Option Oriented). unwrap_or o (turned_by k q c s)) e) ∙ early_or

-- what is found, whatever it is, handed in: a law for each way through the code
module _ (limit : ℕ) (k : List ℕ) (segs : List Segment) (n : ℕ) (q : Question) where
  abbrev pub given : Option ℕ → Oriented
  given c = oriented_with limit k n q c (seg_or segs n (unwrap_or c n))

  pub given_early : (c : Option ℕ) (a : Oriented) → early limit n q ≡ Some a → a ≡ given c
  given_early c a e = with_early limit k n q c _ a e

  -- it is what a choice within the table gives
  pub given_late : (c d : Option ℕ) → c ≡ d → Within n d → early limit n q ≡ None → oriented_by k segs q d ≡ given c
  given_late c (Some i) f l e = ap (turned_by k q (Some i)) (sym (or_at segs n i l)) ∙ with_late limit k n q (Some i) _ e ∙ ap given (sym f)
  given_late c None f l e = with_late limit k n q None _ e ∙ ap given (sym f)

  answered : (c : Option ℕ) → Within n c → turned_by k q c (seg_or segs n (unwrap_or c n)) ≡ oriented_by k segs q c
  answered (Some i) l = ap (turned_by k q (Some i)) (or_at segs n i l)
  answered None l = refl

  -- the last that covers, handed in, is the answer
  pub oriented_told_lem : given (last_in (body_hits q) segs n) ≡ oriented limit k segs n q
  unfolding oriented oriented_with
  oriented_told_lem =
      ap (first_of (case (ltb limit n) TableUnfit ∷ case (is_nan q.et) EpochNan ∷ []) refused_oriented) (answered (last_in (body_hits q) segs n) (body_within segs q n))
