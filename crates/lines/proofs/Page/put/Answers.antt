-- `lines::Page::put` meets its contract: the part of the buffer that the text is copied over ends where the text does. Assumes nothing.
use mathlib.Core.Path.{refl}
use Rattle.std.proofs.Common.{rules}
use Rattle.std.proofs.lemmas.Slice.{overwrites}
use Rattle.lines.proofs.Page.put.Goals as goal

pub returns : goal.returns
returns c = record {
  written = record { ends = search rules; reads = search (rules, overwrites); rest = search (rules, overwrites) };
  same = refl;
  place = refl;
  long = search (rules, overwrites);
}
