-- What `starts_with` says of the bytes from a place on is what `spells` says. Assumes nothing.
use Prim.Native.Nat.{ℕ, ◌+◌, ◌-◌, ◌≤◌, ◌<◌}
use mathlib.Core.Path.{◌≡◌, refl, ap, ◌∙◌}
use mathlib.Core.Bool.{Bool}
use mathlib.Core.List.{List}
use native.Mathlib.Omega.{arith}
use lib.Dec.{eqb}
use lib.ListN.{length, get_or, take, drop}
use Rattle.std.specs.List.{starts_with}
use Rattle.std.proofs.lemmas.Bool.Decides.{Decides-eqb, Decides-below_and, same_from_decides}
use Rattle.std.proofs.lemmas.List.{take_all, length-drop}
use Rattle.std.proofs.lemmas.List.Prefix.{at_reads, at_from_reads}
use Rattle.std.proofs.lemmas.Slice.Eq.{starts_is}
use Rattle.daf.specs.FileRecord.{agree, spells}

pub starts_spells : (k : List ℕ) (at : ℕ) (word : List ℕ) (r : Bool) → at + length word ≤ length k
    → r ≡ starts_with eqb (take (length k - at) (drop at k)) word → r ≡ spells k at word
unfolding agree
starts_spells k at word r fits e =
    let same : ℕ → Type 0 = λ i. get_or k (at + i) 0 ≡ get_or word i 0 in
    let whole : take (length k - at) (drop at k) ≡ drop at k = take_all (length k - at) (drop at k) (omega (arith, length-drop at k)) in
    let s = starts_is Decides-eqb (drop at k) word r (e ∙ ap (λ (l : List ℕ). starts_with eqb l word) whole) in
    same_from_decides {P = (i : ℕ) → i < length word → same i} r (spells k at word)
    (λ t. at_reads 0 k word at _ (s.0 t), λ h. s.1 _ (at_from_reads 0 k word at fits h))
    (Decides-below_and (λ i. eqb (get_or k (at + i) 0) (get_or word i 0)) same (agree k at word) (λ i. Decides-eqb _ _) refl (λ _. refl) (length word))
