-- The table by value, as an opening returned it, is a lent table of 256 places that were empty. So what is proved of a lent one holds of it.
-- Assumes nothing.
use Rattle.std.proofs.Common.{Ok, Err}
use Prim.Native.Nat.{ℕ, ◌≤◌}
use mathlib.Core.Path.{◌≡◌, refl, sym, ap, ◌∙◌, subst}
use mathlib.Core.List.{List}
use lib.ListN.{length, length-replicate}
use Rattle.daf.specs.declared.Family.{Family}
use Rattle.daf.specs.declared.Family.TheVariants.{Spk, Pck}
use Rattle.segment.specs.Evaluating.{evaluated}
use Rattle.segment.specs.declared.Segment.{Segment}
use Rattle.table.specs.Segments.{empty_segment}
use Rattle.table.specs.Places.{table_limit, limit_of, empty_places}
use Rattle.table.specs.declared.Table.{Table}
use Rattle.opening.specs.declared.Opened.{Opened}
use Rattle.opening.specs.Opening.{places_of, segment_at, segments_of, table_of, marked_for, open_cases}
use Rattle.opening.specs.Lent.{found, marked_list, table_after}
use Rattle.opening.proofs.Planning.{length_map}
use Rattle.opening.proofs.Planned.{none_answer}
use Rattle.opening.proofs.Exact.{accepted, table_accepted}
use Rattle.owned.proofs.Owning.{filled_empty, marked_table}
use Rattle.spk.proofs.NoMemory as memory
use Rattle.spk.proofs.Fits.{replied_never_14}
use Rattle.pck.proofs.Exactly as pck
use Rattle.demands.specs.Demands.{OpenedAs, LentAs, Demand3, Interleaving, OpenedFits, QuestionsFit, OrientationsFit}
use Rattle.demands.proofs.Lent.{marked_right, within, lent_fits, long}

abbrev empty : List Segment
empty = empty_places table_limit

empty_long : length empty ≡ table_limit
unfolding empty_places
empty_long = length-replicate table_limit empty_segment

count_marked : (f : Family) (t : Table) → (marked_for f t).count ≡ t.count
count_marked Spk t = refl
count_marked Pck t = refl

module _ (f : Family) (k : List ℕ) (t : Table) (e : OpenedAs f k t) where
  -- as many as there are places of summaries
  all : length (places_of k) ≡ t.count
  all = sym (length_map (segment_at f k) (places_of k)) ∙ sym (count_marked f (table_of (segments_of f k))) ∙ ap (λ (x : Table). x.count) (accepted f k t e).1

  at_256 : found f table_limit k ≡ Ok t.count
  unfolding found
  at_256 = none_answer (open_cases f table_limit k) Err (Ok (length (places_of k))) (accepted f k t e).0 ∙ ap Ok all

  same : t.segments ≡ table_after f table_limit k empty
  same =
      sym (ap (λ (x : Table). x.segments) (accepted f k t e).1)
      ∙ sym (ap (λ (o : Opened). o.table.segments) (marked_table f (length (places_of k)) (segments_of f k) (length_map (segment_at f k) (places_of k))))
      ∙ sym (ap (marked_list f (length (places_of k))) (filled_empty (segments_of f k)))
      ∙ sym (table_accepted f table_limit k empty (accepted f k t e).0)

  pub as_lent : LentAs f k empty t.segments t.count
  as_lent = (
    subst (λ (m : ℕ). found f (limit_of m) k ≡ Ok t.count) (sym empty_long) at_256,
    subst (λ (m : ℕ). t.segments ≡ table_after f (limit_of m) k empty) (sym empty_long) same,
  )

  full : length t.segments ≡ table_limit
  full = long f k empty t.segments t.count as_lent ∙ empty_long

  few : t.count ≤ table_limit
  few = subst (λ (m : ℕ). t.count ≤ limit_of m) full (within f k empty t.segments t.count as_lent)

pub demand_3 : Demand3
demand_3 k t e m asks = memory.no_memory t.segments t.count (marked_right k empty t.segments t.count (as_lent Spk k t e)) table_limit (evaluated Spk k) m asks

pub interleaving : Interleaving
interleaving k t e who m m' asks asks' same_asked =
    memory.interleaving t.segments t.count (marked_right k empty t.segments t.count (as_lent Spk k t e)) table_limit (evaluated Spk k) who m m' asks asks' same_asked

pub fits : OpenedFits
fits f k t e = lent_fits f k empty t.segments t.count (as_lent f k t e)

pub questions_fit : QuestionsFit
questions_fit k t e = replied_never_14 table_limit (evaluated Spk k) t.segments t.count (few Spk k t e) (fits Spk k t e)

pub orientations_fit : OrientationsFit
orientations_fit k t e q = pck.never_14 table_limit k t.segments t.count q (few Pck k t e) (fits Pck k t e)
