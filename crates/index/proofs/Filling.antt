-- One more segment joins an index: an empty one is right for no segments, and it stays right. Assumes nothing.
use mathlib.Core.Path.{◌≡◌, refl, sym, ap, ◌∙◌, subst}
use mathlib.Core.Logic.{⊎_elim}
use mathlib.Core.Bool.{Bool, true, false, cond}
use mathlib.Core.List.{List}
use Prim.Native.Nat.{ℕ, suc, ◌+◌, ◌-◌, ◌≤◌, ◌<◌}
use native.Mathlib.Nat.{not-suc-le-zero, le_of_suc-le-suc, eq-or-lt_of_le}
use native.Mathlib.Numerals.{add-one}
use native.Mathlib.Decide.{ℕ_discrete}
use native.Mathlib.Omega.{arith}
use lib.IntN.{ℤ}
use lib.ListN.{length, get_or, length-set}
use lib.Seq.{get_or-set_same, get_or-set_other}
use borrow.Author.Tests.{eq-eqb, ne_eqb}
use Rattle.segment.specs.declared.Segment.{Segment}
use Rattle.std.proofs.Common.{Some}
use Rattle.table.specs.Segments.{seg}
use Rattle.table.specs.Choosing.{last_in}
use Rattle.table.proofs.Last.{last_none, last_turn}
use Rattle.index.specs.Buckets.{bucket_of, in_bucket, bucket_at}
use Rattle.index.specs.Visiting.{entry_of, head_of}
use Rattle.index.specs.Right.{first_in, IndexedDown, IndexedUp, linked, headed}
use Rattle.index.proofs.Right.{bucket_lt, first_turn}

-- where every bucket is empty, the index is right for no segments
pub down_none : (segs : List Segment) (last below : List ℕ) → ((h : ℕ) → h < length last → get_or last h 0 ≡ 0) → IndexedDown segs 0 last below
down_none segs last below empty =
    record {
      heads = λ h l. empty h l ∙ sym (ap entry_of (last_none _ segs 0 refl));
      links = λ i l. absurd (not-suc-le-zero l);
    }

first_none : (test : Segment → Bool) (segs : List Segment) (i r : ℕ) → r ≡ 0 → entry_of (first_in test segs i r) ≡ 0
unfolding first_in
first_none test segs i r e = ap (λ (x : ℕ). entry_of (first_in test segs i x)) e

pub up_none : (segs : List Segment) (n : ℕ) (first above : List ℕ) → ((h : ℕ) → h < length first → get_or first h 0 ≡ 0) → IndexedUp segs n n first above
up_none segs n first above empty =
    record {
      heads = λ h l. empty h l ∙ sym (first_none _ segs n (n - n) (omega arith));
      links = λ j l k. let no : ⊥ = omega arith in absurd no;
    }

-- what a bucket's entry is after segment i joined: itself, or what it was
module _ (segs : List Segment) (heads : List ℕ) (i : ℕ) (body : ℤ) (own : body ≡ (seg segs i).target) where
  abbrev m : ℕ
  m = length heads

  -- the bucket that it joins
  head_own : (h : ℕ) → h < m → h ≡ bucket_of m body → get_or (headed heads i body) h 0 ≡ suc i
  head_own h l e =
      ap (λ (x : ℕ). get_or (headed heads i body) x 0) e
      ∙ get_or-set_same heads (bucket_of m body) (i + 1) 0 (subst (λ (x : ℕ). x < m) e l)
      ∙ add-one i

  -- segment i is in it
  in_own : (h : ℕ) → h ≡ bucket_of m body → in_bucket m h (seg segs i) ≡ true
  in_own h e = eq-eqb _ _ (ap (bucket_of m) (sym own) ∙ sym e)

  -- another bucket
  head_other : (h : ℕ) → (h ≡ bucket_of m body → ⊥) → get_or (headed heads i body) h 0 ≡ get_or heads h 0
  head_other h ne = get_or-set_other heads (bucket_of m body) h (i + 1) 0 ne

  in_other : (h : ℕ) → (h ≡ bucket_of m body → ⊥) → in_bucket m h (seg segs i) ≡ false
  in_other h ne = ne_eqb _ _ (λ e. ne (sym e ∙ ap (bucket_of m) (sym own)))

  length_headed : length (headed heads i body) ≡ m
  length_headed = length-set heads (bucket_of m body) (i + 1)

  -- ---- the descending index
  module _ (below : List ℕ) (right : IndexedDown segs i heads below) (pos : 0 < m) (fits : i < length below) where
    down_heads : (h : ℕ) → h < m → get_or (headed heads i body) h 0 ≡ entry_of (last_in (in_bucket m h) segs (suc i))
    down_heads h l =
        elim (ℕ_discrete h (bucket_of m body)) [
          | yes e ↦ head_own h l e ∙ sym (ap entry_of (last_turn (in_bucket m h) segs (suc i) i true refl (in_own h e)))
          | no ne ↦ head_other h ne ∙ right.heads h l ∙ sym (ap entry_of (last_turn (in_bucket m h) segs (suc i) i false refl (in_other h ne)))
        ]

    down_links : (j : ℕ) → j < suc i → get_or (linked heads below i body) j 0 ≡ entry_of (last_in (in_bucket m (bucket_at m segs j)) segs j)
    down_links j l =
        ⊎_elim
        (λ (e : j ≡ i).
        ap (λ (x : ℕ). get_or (linked heads below i body) x 0) e
        ∙ get_or-set_same below i (head_of heads body) 0 fits
        ∙ right.heads (bucket_of m body) (bucket_lt m body pos)
        ∙ ap (λ (z : ℤ). entry_of (last_in (in_bucket m (bucket_of m z)) segs i)) own
        ∙ ap (λ (x : ℕ). entry_of (last_in (in_bucket m (bucket_at m segs x)) segs x)) (sym e))
        (λ k. get_or-set_other below i j (head_of heads body) 0 (omega arith) ∙ right.links j k)
        (eq-or-lt_of_le (le_of_suc-le-suc l))

    pub down_more : IndexedDown segs (suc i) (headed heads i body) (linked heads below i body)
    down_more =
        record {
          heads = subst (λ (x : ℕ). (h : ℕ) → h < x → get_or (headed heads i body) h 0 ≡ entry_of (last_in (in_bucket x h) segs (suc i))) (sym length_headed) down_heads;
          links = subst (λ (x : ℕ). (j : ℕ) → j < suc i → get_or (linked heads below i body) j 0 ≡ entry_of (last_in (in_bucket x (bucket_at x segs j)) segs j)) (sym length_headed) down_links;
        }

    -- the same of lists that are these
    pub down_joined : (k : ℕ) (l b : List ℕ) → k ≡ suc i → l ≡ headed heads i body → b ≡ linked heads below i body → IndexedDown segs k l b
    down_joined k l b p q r =
        subst (λ (x : ℕ). IndexedDown segs x l b) (sym p)
        (subst (λ (x : List ℕ). IndexedDown segs (suc i) x b) (sym q)
        (subst (λ (x : List ℕ). IndexedDown segs (suc i) (headed heads i body) x) (sym r) down_more))

  -- ---- the ascending index
  module _ (n : ℕ) (above : List ℕ) (right : IndexedUp segs n (suc i) heads above) (pos : 0 < m) (fits : i < length above) (among : i < n) where
    up_turn : (h : ℕ) (b : Bool) → in_bucket m h (seg segs i) ≡ b
        → entry_of (first_in (in_bucket m h) segs i (n - i)) ≡ entry_of (cond b (Some i) (first_in (in_bucket m h) segs (suc i) (n - suc i)))
    up_turn h b e =
        ap (λ (x : ℕ). entry_of (first_in (in_bucket m h) segs i x)) (omega arith) ∙ ap entry_of (first_turn (in_bucket m h) segs i (n - suc i) b e)

    up_heads : (h : ℕ) → h < m → get_or (headed heads i body) h 0 ≡ entry_of (first_in (in_bucket m h) segs i (n - i))
    up_heads h l =
        elim (ℕ_discrete h (bucket_of m body)) [
          | yes e ↦ head_own h l e ∙ sym (up_turn h true (in_own h e))
          | no ne ↦ head_other h ne ∙ right.heads h l ∙ sym (up_turn h false (in_other h ne))
        ]

    up_links : (j : ℕ) → i ≤ j → j < n → get_or (linked heads above i body) j 0 ≡ entry_of (first_in (in_bucket m (bucket_at m segs j)) segs (suc j) (n - suc j))
    up_links j l k =
        ⊎_elim
        (λ (e : i ≡ j).
        ap (λ (x : ℕ). get_or (linked heads above i body) x 0) (sym e)
        ∙ get_or-set_same above i (head_of heads body) 0 fits
        ∙ right.heads (bucket_of m body) (bucket_lt m body pos)
        ∙ ap (λ (z : ℤ). entry_of (first_in (in_bucket m (bucket_of m z)) segs (suc i) (n - suc i))) own
        ∙ ap (λ (x : ℕ). entry_of (first_in (in_bucket m (bucket_at m segs x)) segs (suc x) (n - suc x))) e)
        (λ q. get_or-set_other above i j (head_of heads body) 0 (omega arith) ∙ right.links j q k)
        (eq-or-lt_of_le l)

    pub up_more : IndexedUp segs n i (headed heads i body) (linked heads above i body)
    up_more =
        record {
          heads = subst (λ (x : ℕ). (h : ℕ) → h < x → get_or (headed heads i body) h 0 ≡ entry_of (first_in (in_bucket x h) segs i (n - i))) (sym length_headed) up_heads;
          links = subst (λ (x : ℕ). (j : ℕ) → i ≤ j → j < n → get_or (linked heads above i body) j 0 ≡ entry_of (first_in (in_bucket x (bucket_at x segs j)) segs (suc j) (n - suc j))) (sym length_headed) up_links;
        }

    -- the same of lists that are these
    pub up_joined : (l b : List ℕ) → l ≡ headed heads i body → b ≡ linked heads above i body → IndexedUp segs n i l b
    up_joined l b q r =
        subst (λ (x : List ℕ). IndexedUp segs n i x b) (sym q)
        (subst (λ (x : List ℕ). IndexedUp segs n i (headed heads i body) x) (sym r) up_more)
