-- What the small functions of the code do.
use Rattle.std.specs.Prelude.{ℕ, List, Ok, Err}
use Rattle.lines.specs.Text.{refusal_text}
use Rattle.listing_text.specs.Lines.{count_text}
use Rattle.opening.specs.Steps.{Plan}

-- The first line that a plan gives: how many are filled, or the refusal.
unfoldable pub first_text : Plan → List ℕ
first_text (Ok p) = count_text p.count
first_text (Err r) = refusal_text r
