-- The four parts of an index, and what joins it: the laws of `Filling`, of the one list. Assumes nothing.
use mathlib.Core.Path.{◌≡◌, refl, sym, ap, ap₂, subst, ◌∙◌}
use mathlib.Core.Bool.{true}
use mathlib.Core.List.{List}
use Prim.Native.Nat.{ℕ, zero, suc, ◌+◌, ◌-◌, ◌/◌, ◌≤◌, ◌<◌}
use native.Mathlib.Nat.{sub-zero}
use native.Mathlib.Numerals.{add-one}
use native.Mathlib.Omega.{arith}
use native.Mathlib.Decide.{ℕ_discrete}
use lib.Dec.{ltb}
use lib.IntN.{ℤ}
use lib.ListN.{length, get_or, set, take, drop, length-set, length-drop}
use lib.Seq.{length-take-le, take-set-le, take-set-lt, drop-set-lt, drop-set-add, get_or-take, get_or-drop, get_or-set_same, get_or-set_other}
use borrow.Author.Tests.{ltb-true, leb-true}
use Rattle.bits.proofs.Tests.{and_first, and_second}
use Rattle.segment.specs.declared.Segment.{Segment}
use Rattle.table.specs.Segments.{seg}
use Rattle.index.specs.Buckets.{bucket_of}
use Rattle.index.specs.Right.{IndexedDown, IndexedUp, headed, linked}
use Rattle.index.specs.Parts.{quarter, last_of, below_of, first_of, above_of, room_in, has_room, Roomy, joined_at, joined_down, joined_up, emptied, joined, filled_index, RightIndex}
use Rattle.index.proofs.Right.{bucket_lt}
use Rattle.index.proofs.Filling.{down_none, up_none, down_joined, up_joined}

-- room that was tested for
pub room_yes : (n : ℕ) (ix : List ℕ) → has_room n ix ≡ true → Roomy n ix
unfolding room_in
room_yes n ix e = record { bucket = ltb-true _ _ (and_first _ _ e); room = leb-true _ _ (and_second (ltb 0 (quarter ix)) _ e) }

-- the parts lie within the list
pub four : (ix : List ℕ) → quarter ix + quarter ix + quarter ix + quarter ix ≤ length ix
four ix = omega arith

part_length : (a : ℕ) (ix : List ℕ) → a + quarter ix ≤ length ix → length (take (quarter ix) (drop a ix)) ≡ quarter ix
part_length a ix l = length-take-le (quarter ix) (drop a ix) (let d = length-drop a ix in omega arith)

pub length_last : (ix : List ℕ) → length (last_of ix) ≡ quarter ix
unfolding last_of
length_last ix = part_length 0 ix (omega arith)

pub length_below : (ix : List ℕ) → length (below_of ix) ≡ quarter ix
unfolding below_of
length_below ix = part_length (quarter ix) ix (omega arith)

pub length_first : (ix : List ℕ) → length (first_of ix) ≡ quarter ix
unfolding first_of
length_first ix = part_length (quarter ix + quarter ix) ix (omega arith)

pub length_above : (ix : List ℕ) → length (above_of ix) ≡ quarter ix
unfolding above_of
length_above ix = part_length (quarter ix + quarter ix + quarter ix) ix (omega arith)

-- a place is stored in a part of m from a on, or outside it
module _ (a m : ℕ) (xs : List ℕ) (v : ℕ) where
  abbrev part : List ℕ → List ℕ
  part l = take m (drop a l)

  part_in : (i : ℕ) → i < m → part (set xs (a + i) v) ≡ set (part xs) i v
  part_in i l = ap (take m) (drop-set-add a xs i v) ∙ take-set-lt m (drop a xs) i v l

  part_before : (j : ℕ) → j < a → part (set xs j v) ≡ part xs
  part_before j l = ap (take m) (drop-set-lt a xs j v l)

  part_behind : (j : ℕ) → a + m ≤ j → part (set xs j v) ≡ part xs
  part_behind j l =
      ap (λ (k : ℕ). part (set xs k v)) {x = j} {y = a + (j - a)} (omega arith)
      ∙ ap (take m) (drop-set-add a xs (j - a) v)
      ∙ take-set-le m (drop a xs) (j - a) v (omega arith)

  part_at : (i : ℕ) → i < m → get_or (part xs) i 0 ≡ get_or xs (a + i) 0
  part_at i l = get_or-take m (drop a xs) i 0 l ∙ get_or-drop a xs i 0

-- ---- one segment joins: an entry of the part from a on goes to place i of the part from b on, and names i + 1
module _ (a b m : ℕ) (apart : a + m ≤ b) (xs : List ℕ) (h i : ℕ) (hm : h < m) (im : i < m) where
  abbrev w : ℕ
  w = get_or xs (a + h) 0

  abbrev ys : List ℕ
  ys = set xs (b + i) w

  abbrev zs : List ℕ
  zs = set ys (a + h) (i + 1)

  join_heads : take m (drop a zs) ≡ set (take m (drop a xs)) h (i + 1)
  join_heads = part_in a m ys (i + 1) h hm ∙ ap (λ (x : List ℕ). set x h (i + 1)) (part_behind a m xs w (b + i) (omega arith))

  join_links : take m (drop b zs) ≡ set (take m (drop b xs)) i (get_or (take m (drop a xs)) h 0)
  join_links =
      part_before b m ys (i + 1) (a + h) (omega arith)
      ∙ part_in b m xs w i im
      ∙ ap (set (take m (drop b xs)) i) (sym (part_at a m xs w h hm))

  -- a part before both, or after both
  join_before : (d : ℕ) → d + m ≤ a → take m (drop d zs) ≡ take m (drop d xs)
  join_before d l = part_behind d m ys (i + 1) (a + h) (omega arith) ∙ part_behind d m xs w (b + i) (omega arith)

  join_behind : (d : ℕ) → b + m ≤ d → take m (drop d zs) ≡ take m (drop d xs)
  join_behind d l = part_before d m ys (i + 1) (a + h) (omega arith) ∙ part_before d m xs w (b + i) (omega arith)

  join_length : length zs ≡ length xs
  join_length = length-set ys (a + h) (i + 1) ∙ length-set xs (b + i) w

module _ (ix : List ℕ) (i : ℕ) (body : ℤ) (l : i < quarter ix) where
  abbrev m : ℕ
  m = quarter ix

  abbrev h : ℕ
  h = bucket_of m body

  hm : h < m
  hm = bucket_lt m body (omega arith)

  -- ---- the descending half
  abbrev D : List ℕ
  D = joined_down ix i body

  abbrev R : List ℕ
  R = set (set ix (m + i) (get_or ix (0 + h) 0)) (0 + h) (i + 1)

  -- with the part's own beginning written out
  raw : D ≡ R
  unfolding joined_down joined_at
  raw = ap (λ (k : ℕ). set (set ix k (get_or ix (0 + h) 0)) (0 + h) (i + 1)) {x = 0 + m + i} {y = m + i} (omega arith)

  pub down_length : length D ≡ length ix
  down_length = ap length raw ∙ join_length 0 m m (omega arith) ix h i hm l

  pub down_quarter : quarter D ≡ m
  down_quarter = ap (λ (k : ℕ). k / 4) down_length

  pub last_down : last_of D ≡ headed (last_of ix) i body
  unfolding last_of
  last_down =
      ap (λ (k : ℕ). take k (drop 0 D)) down_quarter
      ∙ ap (λ (x : List ℕ). take m (drop 0 x)) raw
      ∙ join_heads 0 m m (omega arith) ix h i hm l
      ∙ ap (λ (k : ℕ). set (take m (drop 0 ix)) (bucket_of k body) (i + 1)) (sym (length_last ix))

  pub below_down : below_of D ≡ linked (last_of ix) (below_of ix) i body
  unfolding last_of below_of
  below_down =
      ap (λ (k : ℕ). take k (drop k D)) down_quarter
      ∙ ap (λ (x : List ℕ). take m (drop m x)) raw
      ∙ join_links 0 m m (omega arith) ix h i hm l
      ∙ ap (λ (k : ℕ). set (take m (drop m ix)) i (get_or (take m (drop 0 ix)) (bucket_of k body) 0)) (sym (length_last ix))

  pub first_down : first_of D ≡ first_of ix
  unfolding first_of
  first_down =
      ap (λ (k : ℕ). take k (drop (k + k) D)) down_quarter
      ∙ ap (λ (x : List ℕ). take m (drop (m + m) x)) raw
      ∙ join_behind 0 m m (omega arith) ix h i hm l (m + m) (omega arith)

  pub above_down : above_of D ≡ above_of ix
  unfolding above_of
  above_down =
      ap (λ (k : ℕ). take k (drop (k + k + k) D)) down_quarter
      ∙ ap (λ (x : List ℕ). take m (drop (m + m + m) x)) raw
      ∙ join_behind 0 m m (omega arith) ix h i hm l (m + m + m) (omega arith)

  -- ---- the ascending half
  abbrev U : List ℕ
  U = joined_up ix i body

  pub up_length : length U ≡ length ix
  unfolding joined_up joined_at
  up_length = join_length (m + m) (m + m + m) m (omega arith) ix h i hm l

  pub up_quarter : quarter U ≡ m
  up_quarter = ap (λ (k : ℕ). k / 4) up_length

  pub first_up : first_of U ≡ headed (first_of ix) i body
  unfolding joined_up joined_at first_of
  first_up =
      ap (λ (k : ℕ). take k (drop (k + k) U)) up_quarter
      ∙ join_heads (m + m) (m + m + m) m (omega arith) ix h i hm l
      ∙ ap (λ (k : ℕ). set (take m (drop (m + m) ix)) (bucket_of k body) (i + 1)) (sym (length_first ix))

  pub above_up : above_of U ≡ linked (first_of ix) (above_of ix) i body
  unfolding joined_up joined_at first_of above_of
  above_up =
      ap (λ (k : ℕ). take k (drop (k + k + k) U)) up_quarter
      ∙ join_links (m + m) (m + m + m) m (omega arith) ix h i hm l
      ∙ ap (λ (k : ℕ). set (take m (drop (m + m + m) ix)) i (get_or (take m (drop (m + m) ix)) (bucket_of k body) 0)) (sym (length_first ix))

  pub last_up : last_of U ≡ last_of ix
  unfolding joined_up joined_at last_of
  last_up = ap (λ (k : ℕ). take k (drop 0 U)) up_quarter ∙ join_before (m + m) (m + m + m) m (omega arith) ix h i hm l 0 (omega arith)

  pub below_up : below_of U ≡ below_of ix
  unfolding joined_up joined_at below_of
  below_up = ap (λ (k : ℕ). take k (drop k U)) up_quarter ∙ join_before (m + m) (m + m + m) m (omega arith) ix h i hm l m (omega arith)

-- ---- the buckets are emptied
module _ (ix : List ℕ) where
  abbrev q : ℕ
  q = quarter ix

  pub emptied_length : (i : ℕ) → length (emptied i ix) ≡ length ix
  unfolding emptied
  emptied_length zero = refl
  emptied_length (suc i) = length-set (set (emptied i ix) i 0) (q + q + i) 0 ∙ length-set (emptied i ix) i 0 ∙ emptied_length i

  -- a turn of the loop that empties them
  pub emptied_turn : (xs : List ℕ) (m i : ℕ) → m ≡ q → xs ≡ emptied i ix → set (set xs i 0) (m + m + i) 0 ≡ emptied (i + 1) ix
  unfolding emptied
  emptied_turn xs m i e f =
      ap₂ (λ (l : List ℕ) (k : ℕ). set (set l i 0) (k + k + i) 0) f e ∙ ap (λ (k : ℕ). emptied k ix) (sym (add-one i))

  pub emptied_quarter : (i : ℕ) → quarter (emptied i ix) ≡ q
  emptied_quarter i = ap (λ (k : ℕ). k / 4) (emptied_length i)

  -- an entry of an emptied bucket
  empty_at : (i h : ℕ) → h < i → i ≤ q → (get_or (emptied i ix) h 0 ≡ 0) × (get_or (emptied i ix) (q + q + h) 0 ≡ 0)
  unfolding emptied
  empty_at zero h l k = let no : ⊥ = omega arith in absurd no
  empty_at (suc i) h l k =
      let fits : q + q + i < length (set (emptied i ix) i 0) = (let e = length-set (emptied i ix) i 0 in let f = emptied_length i in omega arith) in
      let far : i < length (emptied i ix) = (let f = emptied_length i in omega arith) in
      elim (ℕ_discrete h i) [
        | yes e ↦ (
          get_or-set_other (set (emptied i ix) i 0) (q + q + i) h 0 0 (omega arith) ∙ ap (λ (x : ℕ). get_or (set (emptied i ix) i 0) x 0) e ∙ get_or-set_same (emptied i ix) i 0 0 far,
          ap (λ (x : ℕ). get_or (set (set (emptied i ix) i 0) (q + q + i) 0) (q + q + x) 0) e ∙ get_or-set_same (set (emptied i ix) i 0) (q + q + i) 0 0 fits,
        )
        | no ne ↦ (
            let was = empty_at i h (omega arith) (omega arith) in (
              get_or-set_other (set (emptied i ix) i 0) (q + q + i) h 0 0 (omega arith) ∙ get_or-set_other (emptied i ix) i h 0 0 ne ∙ was.0,
              get_or-set_other (set (emptied i ix) i 0) (q + q + i) (q + q + h) 0 0 (omega arith) ∙ get_or-set_other (emptied i ix) i (q + q + h) 0 0 (omega arith) ∙ was.1,
            ))
      ]

  abbrev E : List ℕ
  E = emptied q ix

  pub last_empty : (h : ℕ) → h < length (last_of E) → get_or (last_of E) h 0 ≡ 0
  unfolding last_of
  last_empty h l =
      let lq : h < quarter E = subst (λ (k : ℕ). h < k) (length_last E) l in
      let e = emptied_quarter q in
      part_at 0 (quarter E) E 0 h lq ∙ ap (λ (k : ℕ). get_or E k 0) {x = 0 + h} {y = h} (omega arith) ∙ (empty_at q h (omega arith) (omega arith)).0

  pub first_empty : (h : ℕ) → h < length (first_of E) → get_or (first_of E) h 0 ≡ 0
  unfolding first_of
  first_empty h l =
      let lq : h < quarter E = subst (λ (k : ℕ). h < k) (length_first E) l in
      let e = emptied_quarter q in
      part_at (quarter E + quarter E) (quarter E) E 0 h lq ∙ ap (λ (k : ℕ). get_or E (k + k + h) 0) e ∙ (empty_at q h (omega arith) (omega arith)).1

-- ---- all have joined
module _ (segs : List Segment) (n : ℕ) (ix : List ℕ) (room : n ≤ quarter ix) where
  pub joined_length : (i : ℕ) → i ≤ n → length (joined segs n i ix) ≡ length ix
  unfolding joined
  joined_length zero l = refl
  joined_length (suc i) l =
      let b = joined segs n i ix in
      let e = joined_length i (omega arith) in
      let d = down_length b i (seg segs i).target (omega arith) in
      up_length (joined_down b i (seg segs i).target) (n - suc i) (seg segs (n - suc i)).target (omega arith) ∙ d ∙ e

  pub joined_quarter : (i : ℕ) → i ≤ n → quarter (joined segs n i ix) ≡ quarter ix
  joined_quarter i l = ap (λ (k : ℕ). k / 4) (joined_length i l)

  module _ (bucket : 0 < quarter ix) (down₀ : IndexedDown segs 0 (last_of ix) (below_of ix)) (up₀ : IndexedUp segs n n (first_of ix) (above_of ix)) where
    record Right (i : ℕ) (xs : List ℕ) : Type 0 where
      down : IndexedDown segs i (last_of xs) (below_of xs)
      up : IndexedUp segs n (n - i) (first_of xs) (above_of xs)

    joins : (i : ℕ) → i ≤ n → Right i (joined segs n i ix)
    unfolding joined
    joins zero l = record { down = down₀; up = subst (λ (k : ℕ). IndexedUp segs n k (first_of ix) (above_of ix)) (sym (sub-zero n)) up₀ }
    joins (suc i) l =
        let b = joined segs n i ix in
        let was = joins i (omega arith) in
        let e = joined_quarter i (omega arith) in
        let s : ℤ = (seg segs i).target in
        let j = n - suc i in
        let u : ℤ = (seg segs j).target in
        let d = joined_down b i s in
        let f = down_quarter b i s (omega arith) in
        let ll = length_last b in
        let lb = length_below b in
        let lf = length_first d in
        let la = length_above d in
        record {
          down = down_joined segs (last_of b) i s refl (below_of b) was.down (omega arith) (omega arith) (suc i) (last_of (joined_up d j u)) (below_of (joined_up d j u)) refl
              (last_up d j u (omega arith) ∙ last_down b i s (omega arith)) (below_up d j u (omega arith) ∙ below_down b i s (omega arith));
          up = up_joined segs (first_of d) j u refl n (above_of d)
              (subst (λ (x : List ℕ). IndexedUp segs n (suc j) (first_of d) x) (sym (above_down b i s (omega arith)))
              (subst (λ (x : List ℕ). IndexedUp segs n (suc j) x (above_of b)) (sym (first_down b i s (omega arith)))
              (subst (λ (k : ℕ). IndexedUp segs n k (first_of b) (above_of b)) {x = n - i} {y = suc j} (omega arith) was.up)))
              (omega arith) (omega arith) (omega arith) (first_of (joined_up d j u)) (above_of (joined_up d j u)) (first_up d j u (omega arith)) (above_up d j u (omega arith));
        }

-- THEOREM: an index as it is filled is right
pub filled_right : (segs : List Segment) (n : ℕ) (ix : List ℕ) → Roomy n ix → RightIndex segs n (filled_index segs n ix)
unfolding filled_index
filled_right segs n ix roomy =
    let E = emptied (quarter ix) ix in
    let e = emptied_quarter ix (quarter ix) in
    let r = roomy.room in
    let b = roomy.bucket in
    let all = joins segs n E (omega arith) (omega arith) (down_none segs (last_of E) (below_of E) (last_empty ix)) (up_none segs n (first_of E) (above_of E) (first_empty ix)) n (omega arith) in
    record { down = all.down; up = subst (λ (k : ℕ). IndexedUp segs n k (first_of (joined segs n n E)) (above_of (joined segs n n E))) (omega arith) all.up }

-- an index keeps its length
pub filled_length : (segs : List Segment) (n : ℕ) (ix : List ℕ) → n ≤ quarter ix → length (filled_index segs n ix) ≡ length ix
unfolding filled_index
filled_length segs n ix room =
    let e = emptied_quarter ix (quarter ix) in
    joined_length segs n (emptied (quarter ix) ix) (omega arith) n (omega arith) ∙ emptied_length ix (quarter ix)

-- ---- an index goes by the targets alone
module _ (segs segs' : List Segment) (same : (j : ℕ) → (seg segs' j).target ≡ (seg segs j).target) where
  joined_same : (n i : ℕ) (ix : List ℕ) → joined segs' n i ix ≡ joined segs n i ix
  unfolding joined
  joined_same n zero ix = refl
  joined_same n (suc i) ix =
      ap₂ (λ (l : List ℕ) (z : ℤ). joined_up l (n - suc i) z) (ap₂ (λ (l : List ℕ) (z : ℤ). joined_down l i z) (joined_same n i ix) (same i)) (same (n - suc i))

  pub filled_same : (n : ℕ) (ix : List ℕ) → filled_index segs' n ix ≡ filled_index segs n ix
  unfolding filled_index
  filled_same n ix = joined_same n n (emptied (quarter ix) ix)

-- a turn of the loop that fills it
pub joined_none : (segs : List Segment) (n : ℕ) (ix : List ℕ) → joined segs n 0 ix ≡ ix
unfolding joined
joined_none segs n ix = refl

pub joined_next : (segs : List Segment) (n i : ℕ) (ix : List ℕ)
    → joined_up (joined_down (joined segs n i ix) i (seg segs i).target) (n - suc i) (seg segs (n - suc i)).target ≡ joined segs n (suc i) ix
unfolding joined
joined_next segs n i ix = refl
