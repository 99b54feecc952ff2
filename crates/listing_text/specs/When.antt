-- When a listing is refused: what the statements say. Assumes nothing: these are definitions.
use Rattle.std.specs.Prelude.{ℕ, ◌≤◌, ◌<◌, ◌≡◌, ◌⊎◌, List, length, Err}
use Rattle.refusal.specs.declared.Refusal.{Refusal}
use Rattle.daf.specs.declared.Family.TheVariants.{Spk}
use Rattle.table.specs.Places.{lent_limit}
use Rattle.opening.specs.Lent.{found}
use Rattle.streams.specs.Input.{input_limit}

-- 18: the kernel is over the limit.
abbrev pub When18 : List ℕ → Type 0
When18 k = input_limit < length k

-- The opening's refusal: the kernel is not, and its opening is refused so.
pub record WhenOpening (k : List ℕ) (r : Refusal) : Type 0 where
  pub short : length k ≤ input_limit
  pub refused : found Spk lent_limit k ≡ Err r

-- The numbers that are given: the opening's 1 to 9, and 18.
abbrev pub ListingNumber : ℕ → Type 0
ListingNumber k = ((1 ≤ k) × (k ≤ 9)) ⊎ (k ≡ 18)
