-- Laws of the scans over what an iterator visits: what the two ways over a range give, and that a scan over all numbers is the plain one. Assumes nothing.
use Rattle.std.proofs.Common.{◌≡◌, ℕ, zero, suc, ◌+◌, ◌-◌, ◌<◌, ◌≤◌, Bool, true, false, cond, ◌||◌, List, [], ◌∷◌, length, Option, Some, None, MatchOption, refl, sym, ap, subst, ◌∙◌, get_or, arith, ltb}
use Rattle.std.specs.List.{find, list_any, range_with_len}
use Rattle.std.specs.Option.{option_map}
use Rattle.std.specs.Iterator.{YieldsFirst, AlwaysYields}
use Rattle.std.specs.Iterator.Adapters.{rev_source, rev_steps}
use Rattle.std.specs.declared.ops.Range.{Range}
use Rattle.std.specs.declared.iter.Rev.{Rev}
use Rattle.std.proofs.iter.Yields.{nat_range_steps}
use Rattle.std.proofs.lemmas.Iterator.{YieldsList, YieldsList-from_range}
use Rattle.std.proofs.lemmas.Iterator.Consumers.{YieldsList-from_first}
use Rattle.segment.specs.declared.Segment.{Segment}
use Rattle.table.specs.Places.{lent_limit, limit_of}
use Rattle.table.specs.Segments.{seg}
use Rattle.table.specs.Choosing.{last_in}
use Rattle.table.specs.Marks.{rivals, others}
use Rattle.table.specs.Visits.{AllBelow, Visits}

-- ---- what a scan's answers cite
-- the iterator's list, as the library says it
pub road : {S : Type 0} {steps : S → Option ℕ → S → Type 0} {s : S} {n : ℕ} {xs : List ℕ} → Visits steps s n xs → YieldsList steps (λ x. x) s xs
road v = record { runs = v.gives }

pub below_at : (n : ℕ) (xs : List ℕ) (k d : ℕ) → AllBelow n xs → k < length xs → get_or xs k d < n
below_at n [] k d h l = let none : ◌<◌ k 0 = l in omega arith
below_at n (x ∷ xs) zero d h l = h.0
below_at n (x ∷ xs) (suc k) d h l = below_at n xs k d h.1 (omega arith)

pub visited_below : {S : Type 0} {steps : S → Option ℕ → S → Type 0} {s : S} {n : ℕ} {xs : List ℕ} → Visits steps s n xs
    → (x k : ℕ) → k < length xs → x ≡ get_or xs k x → x < n
visited_below {n = n} {xs = xs} v x k l e = let P : ℕ → Type 0 = λ y. y < n in subst P (sym e) (below_at n xs k x v.below l)

pub same_option : (r : Option ℕ) → option_map (λ x. x) r ≡ r
same_option None = refl
same_option (Some x) = refl

-- ---- what iterators visit
-- an iterator that is seen as the list of what is left
pub visits_left : (n : ℕ) (xs : List ℕ) → AllBelow n xs → Visits (YieldsFirst (λ (s : List ℕ). s)) xs n xs
visits_left n xs h = record { gives = (YieldsList-from_first (λ x. x) (λ (s : List ℕ). s) xs refl).runs; below = h }

-- the numbers below n, from the last to the first
abbrev pub downward : ℕ → List ℕ
downward zero = []
downward (suc n) = n ∷ downward n

below_downward : (m n : ℕ) → n ≤ m → AllBelow m (downward n)
below_downward m zero l = tt
below_downward m (suc n) l = (omega arith, below_downward m n (omega arith))

abbrev nat_range_back : Range ℕ → Option ℕ → Range ℕ → Type 0
nat_range_back s r t = (t.start ≡ s.start) × MatchOption r ((s.end - s.start ≡ 0) × (t.end ≡ s.end)) (λ x. (0 < s.end - s.start) × (x ≡ t.end) × (s.end ≡ t.end + 1))

back_gives : (n : ℕ) (s : Rev (Range ℕ)) → (rev_source s).start ≡ 0 → (rev_source s).end ≡ n → AlwaysYields (rev_steps nat_range_back) (λ x. x) s (downward n)
back_gives zero s a b = λ x j p. omega (arith, p.1.0)
back_gives (suc n) s a b = (
  (λ j p. omega (arith, p.1.0)),
  λ x j p. (omega (arith, p.1.1, p.1.2), back_gives n j (p.0 ∙ a) (omega (arith, p.1.2))),
)

-- `(0..n).rev()`
abbrev pub downward_of : Rev (Range ℕ) → List ℕ
downward_of s = downward (rev_source s).end

pub visits_down : {s : Rev (Range ℕ)} (m n : ℕ) → rev_source s ≡ record { start = 0; end = n } → n ≤ m → Visits (rev_steps nat_range_back) s m (downward_of s)
visits_down {s} m n e l = record {
  gives = back_gives (rev_source s).end s (ap (λ (r : Range ℕ). r.start) e) refl;
  below = below_downward m (rev_source s).end (let q = ap (λ (r : Range ℕ). r.end) e in omega arith);
}

below_upward : (m i r : ℕ) → i + r ≤ m → AllBelow m (range_with_len i r)
below_upward m i zero l = tt
below_upward m i (suc r) l = (omega arith, below_upward m (i + 1) r (omega arith))

-- `0..n`
abbrev pub upward_of : Range ℕ → List ℕ
upward_of s = range_with_len 0 s.end

pub visits_up : (m n : ℕ) → n ≤ m → Visits nat_range_steps (record { start = 0; end = n }) m (range_with_len 0 n)
visits_up m n l = record { gives = (YieldsList-from_range 0 n n refl (omega arith)).runs; below = below_upward m 0 n (omega arith) }

-- ---- a scan over all numbers is the plain one
module _ (segs : List Segment) where
  find_all : (test : Segment → Bool) (n : ℕ) → find (λ i. test (seg segs i)) (downward n) ≡ last_in test segs n
  unfolding last_in
  find_all test zero = refl
  find_all test (suc n) = ap (cond (test (seg segs n)) (Some n)) (find_all test n)

  any_all : (a : Segment) (i n : ℕ) → list_any (λ k. rivals a i (seg segs k) k) (downward n) ≡ others segs a i n
  unfolding others
  any_all a i zero = refl
  any_all a i (suc n) = ap (λ b. rivals a i (seg segs n) n || b) (any_all a i n)

  pub find_down : (test : Segment → Bool) (n : ℕ) {s : Rev (Range ℕ)} → rev_source s ≡ record { start = 0; end = n }
      → find (λ i. test (seg segs i)) (downward_of s) ≡ last_in test segs n
  find_down test n {s} e = find_all test (rev_source s).end ∙ ap (λ (r : Range ℕ). last_in test segs r.end) e

  pub any_down : (a : Segment) (i n : ℕ) {s : Rev (Range ℕ)} → rev_source s ≡ record { start = 0; end = n }
      → list_any (λ k. rivals a i (seg segs k) k) (downward_of s) ≡ others segs a i n
  any_down a i n {s} e = any_all a i (rev_source s).end ∙ ap (λ (r : Range ℕ). others segs a i r.end) e

-- so many segments are below the limit of a table that holds them
pub limit_room : (places n : ℕ) → n ≤ places → n ≤ lent_limit → n ≤ limit_of places
limit_room places n l h = go (ltb lent_limit places)
  where
    go : (b : Bool) → n ≤ cond b lent_limit places
    go true = h
    go false = l
