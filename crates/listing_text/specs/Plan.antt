-- What the program's output tells of a kernel: 18, then the opening's refusals, or how many segments are listed. Assumes nothing: these are definitions.
use Rattle.std.specs.Prelude.{ℕ, List, ◌∷◌, ltb, length, Ok, Err}
use Rattle.refusal.specs.declared.Refusal.TheVariants.{InputTooLong}
use Rattle.refusal.specs.Order.{Case, case, first_of}
use Rattle.daf.specs.declared.Family.TheVariants.{Spk}
use Rattle.table.specs.Places.{lent_limit}
use Rattle.opening.specs.Opening.{places_of, open_cases}
use Rattle.opening.specs.Steps.{Plan, filling, start_of}
use Rattle.streams.specs.Input.{input_limit}

abbrev pub list_cases : List ℕ → List Case
list_cases k = case (ltb input_limit (length k)) InputTooLong ∷ open_cases Spk lent_limit k

unfoldable pub list_plan : List ℕ → Plan
list_plan k = first_of (list_cases k) Err (Ok (filling (length (places_of k)) (start_of k)))
