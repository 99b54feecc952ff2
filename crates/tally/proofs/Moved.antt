-- Lines that move up by one to make room for another. Assumes nothing.
use mathlib.Core.Path.{◌≡◌, sym, ap, ap₂, ◌∙◌}
use mathlib.Core.List.{List, ◌∷◌, ◌++◌, append_assoc}
use Prim.Native.Nat.{ℕ, suc, ◌+◌, ◌-◌, ◌≤◌, ◌<◌}
use native.Mathlib.Omega.{arith}
use lib.ListN.{length, take, drop, set, length-drop, length-append}
use lib.Seq.{paste, length-paste, take-take, take-append-le, set_split, drop_at, length-take-le}
use Rattle.std.proofs.lemmas.Slice.{between_is}
use Rattle.tally.specs.declared.Line.{Line}
use Rattle.tally.specs.Steps.{put_in}

-- those of the first n that stand from place `at` on are copied one place up, and v is put into the gap
module _ (l : List Line) (n at : ℕ) (v : Line) (a : at ≤ n) (r : n < length l) where
  pub moved_up : set (paste l (at + 1) (drop at l) (n - at)) at v ≡ put_in l n at v
  moved_up =
      set_split (paste l (at + 1) (drop at l) (n - at)) at v (omega (arith, length-paste l (at + 1) (drop at l) (n - at) (omega arith) (omega (arith, length-drop at l))))
      ∙ ap₂ (λ (s t : List Line). s ++ (v ∷ t)) before after
    where
      long : length (take (at + 1) l) ≡ at + 1
      long = length-take-le (at + 1) l (omega arith)

      before : take at (paste l (at + 1) (drop at l) (n - at)) ≡ take at l
      before =
          take-append-le at (take (at + 1) l ++ take (n - at) (drop at l)) (drop (at + 1 + (n - at)) l) (omega (arith, long, length-append (take (at + 1) l) (take (n - at) (drop at l))))
          ∙ take-append-le at (take (at + 1) l) (take (n - at) (drop at l)) (omega (arith, long))
          ∙ take-take at (at + 1) l (omega arith)

      end : at + 1 + (n - at) ≡ suc n
      end = omega arith

      after : drop (suc at) (paste l (at + 1) (drop at l) (n - at)) ≡ drop at (take n l) ++ drop (suc n) l
      after =
          ap (drop (suc at)) (append_assoc (take (at + 1) l) (take (n - at) (drop at l)) (drop (at + 1 + (n - at)) l))
          ∙ drop_at (take (at + 1) l) (take (n - at) (drop at l) ++ drop (at + 1 + (n - at)) l) (suc at) (omega (arith, long))
          ∙ ap₂ (λ (s : List Line) (k : ℕ). s ++ drop k l) (between_is l at n) end
