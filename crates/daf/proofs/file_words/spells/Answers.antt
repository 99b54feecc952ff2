-- `daf::spells` meets its contract. Assumes nothing.
use Rattle.daf.proofs.Spelling.{starts_spells}
use Rattle.daf.proofs.file_words.spells.Goals as goal

pub returns : goal.returns
returns c = starts_spells _ _ _ _ c.requires c.starts_with.ensures.value
