-- Laws of the refusals before a listing: 18, then those of the opening. Assumes nothing.
use Rattle.std.proofs.Common.{Err}
use mathlib.Core.Path.{◌≡◌, sym, ap}
use mathlib.Core.Bool.{Bool, true, false, cond}
use mathlib.Core.List.{List}
use Prim.Native.Nat.{ℕ}
use lib.Dec.{ltb}
use lib.ListN.{length}
use Rattle.refusal.specs.declared.Refusal.TheVariants.{InputTooLong}
use Rattle.daf.specs.declared.Family.TheVariants.{Spk}
use Rattle.table.specs.Places.{lent_limit}
use Rattle.opening.specs.Steps.{plan_of}
use Rattle.streams.specs.Input.{input_limit}
use Rattle.listing_text.specs.Plan.{list_plan}

module _ (k : List ℕ) where
  pub list_long : ltb input_limit (length k) ≡ true → Err InputTooLong ≡ list_plan k
  unfolding list_plan plan_of
  list_long h = sym (ap (λ (b : Bool). cond b (Err InputTooLong) (plan_of Spk lent_limit k)) h)

  pub list_plan_lem : ltb input_limit (length k) ≡ false → plan_of Spk lent_limit k ≡ list_plan k
  unfolding list_plan plan_of
  list_plan_lem h = sym (ap (λ (b : Bool). cond b (Err InputTooLong) (plan_of Spk lent_limit k)) h)
