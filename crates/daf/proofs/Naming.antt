-- Laws of names, one for each way through the code. Assumes nothing.
use Rattle.std.proofs.Common.{◌↔◌, IsTrue, All}
use Rattle.std.proofs.lemmas.Bool.Decides.{Decides-ltb, Decides-below_and, same_from_decides}
use Rattle.std.proofs.lemmas.List.{get_or-take, get_or-drop, take-take, length-take-le, length-drop}
use Rattle.std.proofs.Math.Seq.{take-length}
use Rattle.std.proofs.lemmas.List.Elements.{All-from_get_or}
use Prim.Native.Nat.{ℕ, zero, suc, ◌+◌, ◌-◌, ◌≤◌, ◌<◌}
use mathlib.Core.Path.{◌≡◌, refl, sym, ap, ap₂, ◌∙◌, subst}
use mathlib.Core.Bool.{Bool, true, false, cond, ◌&&◌}
use mathlib.Core.List.{List, [], ◌∷◌}
use native.Mathlib.Omega.{arith}
use borrow.Author.Tests.{le-leb, lt-leb}
use lib.Dec.{ltb}
use lib.ListN.{length, get_or, take, drop}
use Rattle.bits.proofs.Tests.{by_test_lem}
use Rattle.daf.specs.Names.{kept, is_nul, is_space, ascii, name_length, name_of}
use Rattle.daf.specs.Steps.{trimmed}

-- a place from 0 on
from_0 : (xs : List ℕ) (i : ℕ) → get_or xs (0 + i) 0 ≡ get_or xs i 0
from_0 xs i = let e : 0 + i ≡ i = omega arith in ap (λ (j : ℕ). get_or xs j 0) e

-- ---- what is left where bytes that pass a test go from the end

module _ (test : ℕ → Bool) where
  -- it is no more than there was
  kept_le : (k : List ℕ) (at n : ℕ) → kept test k at n ≤ n
  unfolding kept
  kept_le k at zero = omega arith
  kept_le k at (suc n) =
      let h = kept_le k at n in
      by_test_lem (test (get_or k (at + n) 0)) (λ t. rw t (omega arith)) (λ f. rw f (omega arith))

  -- the bytes alone decide it
  kept_same : (k l : List ℕ) (at from n : ℕ) → ((i : ℕ) → i < n → get_or k (at + i) 0 ≡ get_or l (from + i) 0) → kept test k at n ≡ kept test l from n
  unfolding kept
  kept_same k l at from zero e = refl
  kept_same k l at from (suc n) e =
      ap₂ (λ (b : Bool) (m : ℕ). cond b m (suc n)) (ap test (e n (omega arith))) (kept_same k l at from n (λ i h. e i (omega arith)))

  -- the last byte goes, or all of them stay
  module _ (xs : List ℕ) (some : 1 ≤ length xs) where
    one_more : length xs ≡ suc (length xs - 1)
    one_more = omega arith

    last_is : get_or xs (0 + (length xs - 1)) 0 ≡ get_or xs (length xs - 1) 0
    last_is = from_0 xs (length xs - 1)

    front_length : length (take (length xs - 1) xs) ≡ length xs - 1
    front_length = length-take-le (length xs - 1) xs (omega arith)

    pub trimmed_on : test (get_or xs (length xs - 1) 0) ≡ true → trimmed test (take (length xs - 1) xs) ≡ trimmed test xs
    unfolding kept
    trimmed_on t =
        let n = length xs - 1 in
        let front = take n xs in
        let more : kept test xs 0 (length xs) ≡ kept test xs 0 n =
        ap (kept test xs 0) one_more ∙ ap (λ (b : Bool). cond b (kept test xs 0 n) (suc n)) (ap test last_is ∙ t) in
        let less : kept test front 0 (length front) ≡ kept test xs 0 n =
        ap (kept test front 0) front_length
        ∙ kept_same front xs 0 0 n (λ i l. from_0 front i ∙ get_or-take n xs i 0 l ∙ sym (from_0 xs i)) in
        ap (λ (m : ℕ). take m front) less ∙ take-take _ _ xs (kept_le xs 0 n) ∙ ap (λ (m : ℕ). take m xs) (sym more)

    pub trimmed_here : test (get_or xs (length xs - 1) 0) ≡ false → xs ≡ trimmed test xs
    unfolding kept
    trimmed_here f =
        let n = length xs - 1 in
        let all : kept test xs 0 (length xs) ≡ length xs =
        ap (kept test xs 0) one_more
        ∙ ap (λ (b : Bool). cond b (kept test xs 0 n) (suc n)) (ap test last_is ∙ f)
        ∙ sym one_more in
        sym (ap (λ (m : ℕ). take m xs) all ∙ take-length xs)

  pub trimmed_none : (xs : List ℕ) → length xs < 1 → xs ≡ trimmed test xs
  unfolding kept
  trimmed_none [] e = refl
  trimmed_none (x ∷ xs) e = absurd (omega arith)

-- ---- the n bytes from `at` on

module _ (k : List ℕ) (at n : ℕ) (h : at + n ≤ length k) where
  part_length : length (take n (drop at k)) ≡ n
  part_length = length-take-le n (drop at k) (omega (arith, length-drop at k))

  byte_in : (i : ℕ) → i < n → get_or (take n (drop at k)) (0 + i) 0 ≡ get_or k (at + i) 0
  byte_in i l = from_0 (take n (drop at k)) i ∙ get_or-take n (drop at k) i 0 (omega arith) ∙ get_or-drop at k i 0

  trimmed_part : (test : ℕ → Bool) → trimmed test (take n (drop at k)) ≡ take (kept test k at n) (drop at k)
  trimmed_part test =
      let xs = take n (drop at k) in
      let m : kept test xs 0 (length xs) ≡ kept test k at n = ap (kept test xs 0) part_length ∙ kept_same test xs k 0 at n byte_in in
      ap (λ (j : ℕ). take j xs) m ∙ take-take _ _ _ (kept_le test k at n)

ascii_same : (k l : List ℕ) (at from n : ℕ) → ((i : ℕ) → i < n → get_or k (at + i) 0 ≡ get_or l (from + i) 0) → ascii k at n ≡ ascii l from n
unfolding ascii
ascii_same k l at from zero e = refl
ascii_same k l at from (suc n) e =
    ap₂ (λ (b : ℕ) (r : Bool). ltb b 128 && r) (e n (omega arith)) (ascii_same k l at from n (λ i h. e i (omega arith)))

-- ---- bytes below 128

pub all_ascii : (xs : List ℕ) (r : Bool) → IsTrue r ↔ All (λ b. b < 128) xs → r ≡ ascii xs 0 (length xs)
unfolding ascii
all_ascii xs r w =
    let low : ℕ → Type 0 = λ i. get_or xs (0 + i) 0 < 128 in
    same_from_decides {P = (i : ℕ) → i < length xs → low i} r (ascii xs 0 (length xs)) (
      λ t i l. subst (λ (b : ℕ). b < 128) (sym (from_0 xs i)) (w.0 t i 0 l),
      λ g. w.1 (All-from_get_or (λ b. b < 128) xs 0 (λ i l. subst (λ (b : ℕ). b < 128) (from_0 xs i) (g i l))),
    )
    (Decides-below_and (λ i. ltb (get_or xs (0 + i) 0) 128) low (ascii xs 0) (λ i. Decides-ltb _ _) refl (λ _. refl) (length xs))

-- ---- the name

module _ (k : List ℕ) (at : ℕ) where
  pub name_past : length k < at + 40 → name_of k at ≡ []
  unfolding name_of
  name_past h = ap (λ (b : Bool). cond (b && ascii k at 40) (take (name_length k at) (drop at k)) []) (lt-leb (at + 40) (length k) h)

  module _ (h : at + 40 ≤ length k) {xs : List ℕ} (e : xs ≡ take (at + 40 - at) (drop at k)) where
    bytes_are : xs ≡ take 40 (drop at k)
    bytes_are = let same : at + 40 - at ≡ 40 = omega arith in e ∙ ap (λ (j : ℕ). take j (drop at k)) same

    same_ascii : ascii xs 0 (length xs) ≡ ascii k at 40
    same_ascii =
        ap₂ (λ (l : List ℕ) (n : ℕ). ascii l 0 n) bytes_are (ap length bytes_are ∙ part_length k at 40 h)
        ∙ ascii_same (take 40 (drop at k)) k 0 at 40 (byte_in k at 40 h)

    pub name_other : ascii xs 0 (length xs) ≡ false → name_of k at ≡ []
    unfolding name_of
    name_other a = rw (le-leb (at + 40) (length k) h, sym same_ascii ∙ a)

    -- what is left without NULs, and of that without spaces
    pub name_part : {ys zs : List ℕ} → ascii xs 0 (length xs) ≡ true → ys ≡ trimmed is_nul xs → zs ≡ trimmed is_space ys → zs ≡ name_of k at
    unfolding name_of
    name_part a ey ez =
        let m = kept_le is_nul k at 40 in
        let y = ey ∙ ap (trimmed is_nul) bytes_are ∙ trimmed_part k at 40 h is_nul in
        let z = ez ∙ ap (trimmed is_space) y ∙ trimmed_part k at (kept is_nul k at 40) (omega arith) is_space in
        rw (le-leb (at + 40) (length k) h, sym same_ascii ∙ a) z
