-- What a question to an SPK gives, over a kernel and a table: a lent one, with its count, or one by value. Assumes nothing: these are definitions.
use Rattle.std.specs.Prelude.{ℕ, List, Float, length, ℤ, Option}
use Rattle.daf.specs.declared.Family.TheVariants.{Spk}
use Rattle.frame.specs.Frame.{Matrix}
use Rattle.segment.specs.declared.Segment.{Segment}
use Rattle.segment.specs.Evaluating.{evaluated}
use Rattle.table.specs.declared.Table.{Table}
use Rattle.table.specs.Places.{table_limit, limit_of}
use Rattle.spk.specs.declared.Question.{Question}
use Rattle.spk.specs.Choosing.{Memory}
use Rattle.spk.specs.declared.Answer.{Answer}
use Rattle.spk.specs.declared.Asked.{Asked}
use Rattle.spk.specs.Asking.{asked}
use Rattle.spk.specs.Turning.{asked_in}
use Rattle.spk.specs.Alone.{alone_answer}

-- A state; a state in a frame; a segment alone: over the first n segments of a lent table, whose limit goes by its places.
abbrev pub lent_asked : List ℕ → List Segment → ℕ → Memory → Question → Asked
lent_asked kernel table n memory q = asked (limit_of (length table)) (evaluated Spk kernel) table n memory q

abbrev pub lent_asked_in : List ℕ → List Segment → ℕ → Memory → Question → Option ℤ → Matrix → Asked
lent_asked_in kernel table n memory q wanted rot = asked_in (limit_of (length table)) (evaluated Spk kernel) table n memory q wanted rot

abbrev pub lent_alone : List ℕ → List Segment → ℕ → ℕ → Float → Answer
lent_alone kernel table n number et = alone_answer (limit_of (length table)) (evaluated Spk kernel) table n number et

-- The same over a table by value, whose limit is 256.
abbrev pub owned_asked : List ℕ → Table → Memory → Question → Asked
owned_asked kernel table memory q = asked table_limit (evaluated Spk kernel) table.segments table.count memory q

abbrev pub owned_asked_in : List ℕ → Table → Memory → Question → Option ℤ → Matrix → Asked
owned_asked_in kernel table memory q wanted rot = asked_in table_limit (evaluated Spk kernel) table.segments table.count memory q wanted rot

abbrev pub owned_alone : List ℕ → Table → ℕ → Float → Answer
owned_alone kernel table number et = alone_answer table_limit (evaluated Spk kernel) table.segments table.count number et
