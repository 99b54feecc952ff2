-- Laws of the listing's text: the lines of one more segment, and what the plan of the opening gives. Assumes nothing.
use Rattle.std.proofs.Common.{Ok, Err}
use mathlib.Core.Path.{◌≡◌, refl, ap, subst}
use mathlib.Core.Bool.{Bool, cond}
use mathlib.Core.List.{List, ◌++◌, append-nil}
use Prim.Native.Nat.{ℕ}
use lib.Dec.{ltb}
use lib.ListN.{length, length-replicate}
use Rattle.refusal.specs.declared.Refusal.TheVariants.{InputTooLong}
use Rattle.daf.specs.declared.Family.TheVariants.{Spk}
use Rattle.segment.specs.declared.Segment.{Segment}
use Rattle.table.specs.Places.{lent_limit, limit_of, empty_places}
use Rattle.table.specs.Segments.{seg, empty_segment}
use Rattle.opening.specs.Opening.{open_cases}
use Rattle.opening.specs.Lent.{table_after}
use Rattle.opening.specs.Steps.{Plan, filling, start_of, plan_of, carried_out}
use Rattle.opening.specs.Steps as planning
use Rattle.opening.proofs.Planned.{first_two, table_told}
use Rattle.lines.specs.Text.{refusal_text}
use Rattle.lines.proofs.Texts.{Turns}
use Rattle.streams.specs.Input.{input_limit}
use Rattle.listing_text.specs.Lines.{segment_text, count_text}
use Rattle.listing_text.specs.Steps.{first_text}
use Rattle.listing_text.specs.Text.{table_in, count_in, segments_from, listing_text, listing_output}

-- ---- the lines of the segments, from number i on
abbrev pub lines_from : List Segment → ℕ → Unit {0} → ℕ → List ℕ
lines_from segs i s many = segments_from segs i many

pub turns : (segs : List Segment) → Turns (Unit {0}) (lines_from segs) (λ i s. segment_text i (seg segs i)) (λ i s. s)
unfolding segments_from
turns segs = record { none = λ i s. refl; more = λ i s many. refl }

-- ---- the whole text
empty_length : (n : ℕ) → length (empty_places n) ≡ n
unfolding empty_places
empty_length n = length-replicate n empty_segment

-- the table that the plan of the opening leaves
pub table_in_lem : (k : List ℕ) → carried_out Spk k (plan_of Spk lent_limit k) (empty_places lent_limit) ≡ table_in k
unfolding table_in
table_in_lem k =
    subst (λ (n : ℕ). carried_out Spk k (plan_of Spk (limit_of n) k) (empty_places lent_limit) ≡ table_after Spk (limit_of n) k (empty_places lent_limit)) (empty_length lent_limit)
    (table_told Spk k (empty_places lent_limit))

-- the first line of the opening's plan, then the lines of what is filled
pub plan_text : (k : List ℕ) (segs : List Segment) → segs ≡ table_in k
    → first_text (plan_of Spk lent_limit k) ++ segments_from segs 0 (planning.count_in (plan_of Spk lent_limit k)) ≡ listing_text k
unfolding plan_of first_text listing_text segments_from
plan_text k segs e =
    first_two (open_cases Spk lent_limit k) Err (Ok (filling (count_in k) (start_of k))) refusal_text (count_text (count_in k) ++ segments_from (table_in k) 0 (count_in k))
    (λ (p : Plan) (l : List ℕ). first_text p ++ segments_from segs 0 (planning.count_in p) ≡ l)
    (λ r. append-nil (refusal_text r))
    (λ none. ap (λ (t : List Segment). count_text (count_in k) ++ segments_from t 0 (count_in k)) e)

-- 18 comes first
pub output_text : (k : List ℕ) (b : Bool) → ltb input_limit (length k) ≡ b → listing_output k ≡ cond b (refusal_text InputTooLong) (listing_text k)
unfolding listing_output
output_text k b e = ap (λ (t : Bool). cond t (refusal_text InputTooLong) (listing_text k)) e
