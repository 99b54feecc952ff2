-- What a question through an index gives, over a kernel, the first n segments of a lent table and the index. Assumes nothing: these are definitions.
use Rattle.std.specs.Prelude.{ℕ, List, length, ℤ, Option}
use Rattle.daf.specs.declared.Family.TheVariants.{Spk}
use Rattle.frame.specs.Frame.{Matrix}
use Rattle.segment.specs.declared.Segment.{Segment}
use Rattle.segment.specs.Evaluating.{evaluated}
use Rattle.table.specs.Places.{limit_of}
use Rattle.spk.specs.declared.Question as spk
use Rattle.spk.specs.Choosing.{Memory}
use Rattle.spk.specs.declared.Asked.{Asked}
use Rattle.pck.specs.declared.Question as pck
use Rattle.pck.specs.declared.Oriented.{Oriented}
use Rattle.indexed.specs.Asking.{asked_with, asked_in_with}
use Rattle.indexed.specs.Orienting.{oriented_with}

abbrev pub indexed_asked : List ℕ → List Segment → ℕ → List ℕ → Memory → spk.Question → Asked
indexed_asked kernel table n ix memory q = asked_with (limit_of (length table)) (evaluated Spk kernel) table n ix memory q

abbrev pub indexed_asked_in : List ℕ → List Segment → ℕ → List ℕ → Memory → spk.Question → Option ℤ → Matrix → Asked
indexed_asked_in kernel table n ix memory q wanted rot = asked_in_with (limit_of (length table)) (evaluated Spk kernel) table n ix memory q wanted rot

abbrev pub indexed_oriented : List ℕ → List Segment → ℕ → List ℕ → pck.Question → Oriented
indexed_oriented kernel table n ix q = oriented_with (limit_of (length table)) kernel table n ix q
