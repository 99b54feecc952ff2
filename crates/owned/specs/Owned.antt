-- An opening by value: of a plan that was carried out, and of an SPK with its memory. Assumes nothing: these are definitions.
use Rattle.std.specs.Prelude.{ℕ, List, Ok, Err, None}
use Rattle.daf.specs.declared.Family.TheVariants.{Spk}
use Rattle.segment.specs.declared.Segment.{Segment}
use Rattle.opening.specs.declared.Opened.{Opened}
use Rattle.opening.specs.Opening.{opened}
use Rattle.owned.specs.declared.OpenedSpk.{OpenedSpk}
use Rattle.opening.specs.Steps.{Plan}

abbrev pub opened_by : Plan → List Segment → Opened
opened_by (Ok p) segs = record { outcome = Ok tt; table = record { segments = segs; count = p.count } }
opened_by (Err r) segs = record { outcome = Err r; table = record { segments = segs; count = 0 } }

-- An SPK opened: the table, and nothing remembered.
abbrev pub opened_spk : List ℕ → OpenedSpk
opened_spk k = record { opened = opened Spk k; memory = None }
