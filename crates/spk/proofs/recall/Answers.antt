use Rattle.std.proofs.Common.{rules}
use borrow.Author.Tests.{tests}
use Rattle.spk.proofs.Handed.{filter_told}
use Rattle.spk.proofs.recall.Goals as goal

pub returns : goal.returns
returns c = let a = c.args in filter_told a.table.now a.n a.q a.memory c.filter.result _ (λ i b k. search (rules, tests)) c.filter.ensures
